-- A sound record holds the codes of its settled log.
use mathlib.Core.Path.{sym, ap, ◌∙◌}
use Prim.Native.Nat.{ℕ}
use Rattle.protocol.specs.Codes.{no_codes}
use Rattle.frame.proofs.Sound.{sound}
use Rattle.both_frames.proofs.Shown.{lines-unsound, lines-shown}
use Rattle.both_frames.proofs.all_lines.Goals as goal

pub returns : goal.returns
returns c = let s = sym c.sound.ensures ∙ c.if-not-sound.false in lines-shown _ _ s (sound _ _ s)

pub returns-then-not-sound : goal.returns-then-not-sound
returns-then-not-sound c = ap (λ (n : ℕ). record { number = n; codes = no_codes }) c.number.ensures ∙ lines-unsound _ _ (sym c.sound.ensures ∙ c.if-not-sound.true)
