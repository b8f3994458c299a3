use Rattle.dsa_cells.proofs.store.LinkedStoreEntryStore.len.Goals as goal
use Rattle.std.proofs.{Common.{ap, ◌∙◌}, lemmas.List.{get_or_read}}
use Rattle.dsa_cells.specs.{Array.{no_header}}
use Rattle.dsa_cells.proofs.Contents.{in_headers, len-is}

pub returns : goal.returns
returns g c =
    ap (λ t. t.count) (get_or_read _ _ _ (in_headers _ _ _ c.requires) c.index.ensures no_header)
    ∙ len-is _ c.args.self.now.whole c.requires
