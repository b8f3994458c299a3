use Rattle.dsa_recordings.proofs.fits.step_fits.Goals as goal

pub returns : goal.returns
returns c = λ has. record { event_fits = c.event_fits.ensures; reply_fits = c.reply_fits.ensures; word = has }
