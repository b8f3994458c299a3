use Rattle.dsa_draw.proofs.bands.add_bands.Given as goal
use Rattle.std.proofs.Common.{◌≡◌, ◌++◌, drop, string_bytes}
use Rattle.dsa_draw.specs.Bands.{bands_text, bands_end}

abbrev pub invariant-loop-band : goal.invariant-loop-band
invariant-loop-band l = record {
  text : string_bytes l.text ++ bands_text l.steps l.top (drop l.band-index l.bands) l.moments
      ≡ string_bytes l.initial.text ++ bands_text l.steps l.initial.top l.bands l.moments;
  end : bands_end l.top (drop l.band-index l.bands) l.moments ≡ bands_end l.initial.top l.bands l.moments;
}
