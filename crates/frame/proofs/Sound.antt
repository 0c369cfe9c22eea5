-- The test `sound_b` and its facts by name, both ways. Assumes nothing.
use mathlib.Core.Path.{◌≡◌}
use mathlib.Core.Bool.{true}
use mathlib.Core.List.{List}
use Prim.Native.Nat.{ℕ}
use Rattle.soundness.proofs.Facts as facts
use Rattle.frame.specs.Soundness.{sound_b, Sound}
use Rattle.frame.specs.declared.Record.{Record}

module _ (r : Record) (words : List ℕ) where
  pub sound : sound_b r words ≡ true → Sound r words
  unfolding sound_b
  sound e = facts.sound-facts r.n r.own r.weights r.kept r.noted r.summary r.settled r.ballots words e

  pub sound-true : Sound r words → sound_b r words ≡ true
  unfolding sound_b
  sound-true S = facts.sound-true r.n r.own r.weights r.kept r.noted r.summary r.settled r.ballots words S
