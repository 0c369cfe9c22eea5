-- What is lost on whole logs, dropped entries included, is what is lost of what is held: p was dropped before the call and q is after it, o and o' are what is
-- held, and no call drops more than was settled before it.
--     lost-held     the dropped entries are not looked at
-- Assumes nothing.
use mathlib.Core.Path.{◌≡◌, ap, ◌∙◌}
use mathlib.Core.List.{List, ◌++◌, append_assoc}
use Prim.Native.Nat.{ℕ, ◌+◌, ◌-◌, ◌≤◌}
use native.Mathlib.Omega.{arith}
use lib.ListN.{length, drop, length-append}
use lib.Seq.{drop-append-add}
use Rattle.protocol.specs.Office.{Office, tail, path}
use Rattle.protocol.proofs.FoldedWorld.{whole}
use Rattle.own_entries.specs.Parts.{lost_part, lost_of}

module _ (k : ℕ) (p q : List ℕ) (o o' : Office) (low : length q ≤ length p + length o.log) where
  -- the place of the tail in what is held after the call
  abbrev pub place_of : ℕ
  place_of = length p + length o.log - length q

  past : (l : List ℕ) → drop (length (p ++ o.log)) (q ++ l) ≡ drop place_of l
  past l =
      let far : length (p ++ o.log) ≡ length q + place_of = omega (arith, length-append p o.log) in
      ap (λ (j : ℕ). drop j (q ++ l)) far ∙ drop-append-add q l place_of

  past-path : drop (length (p ++ o.log)) (path (whole q o') k) ≡ drop place_of (path o' k)
  past-path = ap (drop (length (p ++ o.log))) (append_assoc q o'.log (tail o' k)) ∙ past (path o' k)

  pub lost-held : lost_of k (whole p o) (whole q o') ≡ lost_part (tail o k) (drop place_of (path o' k))
  lost-held = ap (lost_part (tail o k)) past-path
