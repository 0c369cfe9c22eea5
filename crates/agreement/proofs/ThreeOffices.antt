-- Demand 3 with no hypothesis left: three offices with document 01's weights 40, 35, 25, each with the record that its done founding returns and a
-- log of 1024 zeros, and every list of calls. `rehearsal-order` of Rehearsed.antt computes one list of them. Assumes nothing.
use mathlib.Core.Path.{◌≡◌, refl, sym, ap, ◌∙◌}
use mathlib.Core.List.{List, [], ◌∷◌}
use Rattle.std.specs.Prelude.{Some}
use Prim.Native.Nat.{ℕ, zero, suc, ◌<◌}
use native.Mathlib.Omega.{arith}
use lib.ListN.{length, get_or, replicate}
use Rattle.lists.specs.Tests.{all_b, both, pick}
use Rattle.protocol.specs.Limits.{head_fine, is_office, is_weight, total, weights_fine, long_enough, found_number}
use Rattle.frame.specs.Founding.{found_of}
use Rattle.agreement.specs.World.{Replica, World, Call, replica_at, after}
use Rattle.agreement.specs.Demand.{Founded, OneOrder}
use Rattle.agreement.proofs.Places.{nothing, find, there-at}
use Rattle.agreement.proofs.Start.{start_of, AllDone, start-founded}
use Rattle.agreement.proofs.Demand.{one-order}
use Rattle.agreement.proofs.Calls.{always}

abbrev pub usual_weights : List ℕ
usual_weights = 40 ∷ 35 ∷ 25 ∷ 0 ∷ 0 ∷ 0 ∷ 0 ∷ 0 ∷ []

abbrev pub empty_log : List ℕ
empty_log = replicate 1024 0

abbrev pub three_offices : World
three_offices = start_of 3 usual_weights (replicate 3 empty_log)

-- office k's founding is done
abbrev Done : ℕ → Type 0
Done k = (found_of 3 k usual_weights empty_log).number ≡ 0

foundings-done : Done 0 × Done 1 × Done 2
unfolding found_of found_number head_fine is_office weights_fine long_enough total is_weight all_b both pick
foundings-done = (refl, refl, refl)

pub three-founded : Founded 3 usual_weights three_offices
three-founded = start-founded 3 usual_weights (replicate 3 empty_log) (omega arith) refl done
  where
    at : (k : ℕ) (l : List ℕ) → Some empty_log ≡ Some l → Done k → (found_of 3 k usual_weights l).number ≡ 0
    at k l e h = let q : l ≡ empty_log = cc in ap (λ (x : List ℕ). (found_of 3 k usual_weights x).number) q ∙ h

    done : AllDone 3 usual_weights 0 (replicate 3 empty_log)
    done zero l e = at 0 l e foundings-done.0
    done (suc zero) l e = at 1 l e foundings-done.1
    done (suc (suc zero)) l e = at 2 l e foundings-done.2
    done (suc (suc (suc k))) l e = absurd (nothing l e)

-- demand 3 of these offices
pub three-offices-one-order : (cs : List Call) → OneOrder three_offices cs
three-offices-one-order = one-order 3 usual_weights three_offices three-founded

-- each of them is there after every list of calls, whatever its record is then
pub office-there : (cs : List Call) (k : ℕ) (d : Replica) → k < 3 → replica_at (after three_offices cs) k ≡ Some (get_or (after three_offices cs).replicas k d)
office-there cs k d h =
    let l : List Replica = (after three_offices cs).replicas in
    let s : k < length l = rw (always 3 usual_weights three_offices three-founded cs).offices h in
    let x = find l k s in
    x.1 ∙ ap (λ (y : Replica). Some y) (sym (there-at l k x.0 d x.1))
