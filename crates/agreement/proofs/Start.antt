-- The claim is not empty: n foundings that are done, each with a log of its own, whatever it holds, make a world of demand 3. Assumes nothing.
use mathlib.Core.Path.{◌≡◌, refl, sym, ap, subst, ◌∙◌}
use mathlib.Core.List.{List, [], ◌∷◌}
use Rattle.std.specs.Prelude.{Some}
use Prim.Native.Nat.{ℕ, zero, suc, ◌+◌, ◌≤◌}
use native.Mathlib.Omega.{arith}
use lib.ListN.{length}
use Rattle.std.specs.Prelude.{slice_get}
use Rattle.frame.specs.Founding.{found_of}
use Rattle.agreement.specs.World.{Replica, World}
use Rattle.agreement.specs.Demand.{Founded}
use Rattle.agreement.proofs.Places.{nothing}
use Rattle.agreement.proofs.Founded.{found_replica}

-- the replicas of the offices from number k on, each founded with its own log
abbrev pub found_replicas : ℕ → List ℕ → ℕ → List (List ℕ) → List Replica
found_replicas n ws k [] = []
found_replicas n ws k (l ∷ ls) = found_replica n ws k l ∷ found_replicas n ws (suc k) ls

abbrev pub start_of : ℕ → List ℕ → List (List ℕ) → World
start_of n ws logs = record { replicas = found_replicas n ws 0 logs; sent = [] }

replicas-length : (n : ℕ) (ws : List ℕ) (k : ℕ) (logs : List (List ℕ)) → length (found_replicas n ws k logs) ≡ length logs
replicas-length n ws k [] = refl
replicas-length n ws k (l ∷ ls) = ap suc (replicas-length n ws (suc k) ls)

-- d is what the done founding of office k leaves
abbrev IsFounded : ℕ → List ℕ → ℕ → Replica → Type 0
IsFounded n ws k d = ((found_of n k ws d.words).number ≡ 0) × (d.held ≡ (found_of n k ws d.words).«record»)

-- every office's founding is done
abbrev pub AllDone : ℕ → List ℕ → ℕ → List (List ℕ) → Type 0
AllDone n ws k logs = (i : ℕ) (l : List ℕ) → slice_get logs i ≡ Some l → (found_of n (k + i) ws l).number ≡ 0

each-founded : (n : ℕ) (ws : List ℕ) (k : ℕ) (logs : List (List ℕ)) → AllDone n ws k logs
    → (i : ℕ) (d : Replica) → slice_get (found_replicas n ws k logs) i ≡ Some d → IsFounded n ws (k + i) d
each-founded n ws k [] h i d e = absurd (nothing d e)
each-founded n ws k (l ∷ ls) h zero d e =
    let q : found_replica n ws k l ≡ d = cc in
    let z : k ≡ k + 0 = omega arith in
    subst (IsFounded n ws (k + 0)) q (h 0 l refl, ap (λ (j : ℕ). (found_of n j ws l).«record») z)
each-founded n ws k (l ∷ ls) h (suc i) d e =
    let z : (j : ℕ) → suc k + j ≡ k + suc j = λ j. omega arith in
    subst (λ (j : ℕ). IsFounded n ws j d) (z i)
    (each-founded n ws (suc k) ls (λ j x q. ap (λ (y : ℕ). (found_of n y ws x).number) (z j) ∙ h (suc j) x q) i d e)

none_dropped : (n : ℕ) (ws : List ℕ) (k : ℕ) (logs : List (List ℕ)) (i : ℕ) (d : Replica) → slice_get (found_replicas n ws k logs) i ≡ Some d → d.former ≡ []
none_dropped n ws k [] i d e = absurd (nothing d e)
none_dropped n ws k (l ∷ ls) zero d e = let q : found_replica n ws k l ≡ d = cc in ap (λ (x : Replica). x.former) (sym q)
none_dropped n ws k (l ∷ ls) (suc i) d e = none_dropped n ws (suc k) ls i d e

pub start-founded : (n : ℕ) (ws : List ℕ) (logs : List (List ℕ)) → 1 ≤ n → length logs ≡ n → AllDone n ws 0 logs → Founded n ws (start_of n ws logs)
start-founded n ws logs some-office enough done =
    let z : (j : ℕ) → 0 + j ≡ j = λ j. omega arith in
    record {
      any = some-office;
      offices = replicas-length n ws 0 logs ∙ enough;
      founded = λ k d e. subst (λ (j : ℕ). IsFounded n ws j d) (z k) (each-founded n ws 0 logs done k d e);
      nothing-dropped = λ k d e. none_dropped n ws 0 logs k d e;
      silent = refl;
    }
