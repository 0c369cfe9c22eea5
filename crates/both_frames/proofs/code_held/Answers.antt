-- The refusals in the order of their numbers.
use native.Mathlib.Omega.{arith}
use mathlib.Core.Bool.{true}
use mathlib.Core.Path.{sym, ◌∙◌}
use Rattle.both_frames.proofs.Shown.{code-unsound, code-past, code-held}
use Rattle.both_frames.proofs.code_held.Goals as goal

pub returns-then-not-sound : goal.returns-then-not-sound
returns-then-not-sound c = code-unsound _ _ _ (sym c.sound.ensures ∙ c.if-not-sound.true)

pub returns-then-line-ge-LINES : goal.returns-then-line-ge-LINES
returns-then-line-ge-LINES c = code-past _ _ _ (sym c.sound.ensures ∙ c.if-not-sound.false) (omega arith)

pub returns : goal.returns
returns c = code-held _ _ _ (sym c.sound.ensures ∙ c.if-not-sound.false) (omega arith)
