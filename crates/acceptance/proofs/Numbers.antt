-- Take's number and the places of its comparison, each way out in the order of the definitions.
--     checked-number                                        the number beside the places is that of the definition
--     not-read, other-count, other-weights, own-message     7, 8 and 9
--     by-logs                                               else it is the logs' (`comparing`)
--     refusal-folded                                        the number is the protocol's
-- Assumes nothing.
use mathlib.Core.Path.{◌≡◌, refl, ap, ◌∙◌}
use mathlib.Core.Bool.{Bool, true, false, not, cond}
use mathlib.Core.List.{List}
use Prim.Native.Nat.{ℕ, ◌+◌, ◌-◌}
use lib.Dec.{eqb, ltb}
use lib.ListN.{length, drop}
use borrow.Author.Tests.{eq-eqb, ne_eqb}
use Rattle.lists.specs.Tests.{both, pick, same}
use Rattle.protocol.specs.Beginning.{comparable}
use Rattle.protocol.specs.Take.{refuse_take}
use Rattle.protocol.specs.Folding.{refuse_folded_take}
use Rattle.readings.specs.declared.Reading.{Reading}
use Rattle.shared_places.specs.FromEnd.{compares}
use Rattle.std.specs.Prelude.{Err}
use Rattle.std.specs.Prelude.{Option, None, Some}
use Rattle.std.specs.Option.{option_map_or}
use Rattle.refusals.specs.Refusals.{number_of}
use Rattle.refusals.specs.declared.Refusal.{Refusal}
use Rattle.comparing.specs.Checking.{Checked, checked_in, logs_refusal, checked_by}
use Rattle.comparing.specs.declared.Refused.{Refused}
use Rattle.comparing.proofs.Checking.{by-none}
use Rattle.acceptance.specs.Acceptance.{packet_in, refusal_of, checked_of}

-- a message of these offices and weights
pub record Alike (n : ℕ) (weights : List ℕ) (m : Reading) : Type 0 where
  pub count : m.n ≡ n
  pub same-weights : same m.weights weights ≡ true

module _ (n own : ℕ) (weights : List ℕ) (dropped : ℕ) (log : List ℕ) (rest : List ℕ) where
  pub checked-number : (o : Option Reading) → (checked_of n own weights dropped log rest o).number ≡ refusal_of n own weights dropped log rest o
  unfolding checked_of checked_by
  checked-number None = refl
  checked-number (Some m) = refl

  pub not-read : (o : Option Reading) → o ≡ None → 7 ≡ refusal_of n own weights dropped log rest o
  unfolding refusal_of
  not-read o e = rw e

  pub answer-none : (o : Option Reading) (r : Refused) (f : Refusal) → r ≡ record { refusal = f; places = 0 } → compares (number_of f) ≡ false
      → number_of f ≡ refusal_of n own weights dropped log rest o → checked_in (Err r) ≡ checked_of n own weights dropped log rest o
  unfolding checked_of
  answer-none None r f is c e = ap (λ (x : Refused). checked_in (Err x)) is ∙ λ i. record { number = e i; places = 0 }
  answer-none (Some m) r f is c e = by-none dropped log m.dropped (packet_in rest m).state.log r f (refusal_of n own weights dropped log rest (Some m)) is c e

module _ (n own : ℕ) (weights : List ℕ) (dropped : ℕ) (log : List ℕ) (rest : List ℕ) (m : Reading) where
  abbrev message-log : List ℕ
  message-log = (packet_in rest m).state.log

  pub other-count : (m.n ≡ n → ⊥) → 8 ≡ refusal_of n own weights dropped log rest (Some m)
  unfolding refusal_of pick both
  other-count d = rw (ne_eqb m.n n d)

  pub other-weights : m.n ≡ n → same m.weights weights ≡ false → 8 ≡ refusal_of n own weights dropped log rest (Some m)
  unfolding refusal_of pick both
  other-weights q w = rw (eq-eqb m.n n q, w)

  module _ (A : Alike n weights m) where
    pub own-message : m.sender ≡ own → 9 ≡ refusal_of n own weights dropped log rest (Some m)
    unfolding refusal_of pick both
    own-message s = rw (eq-eqb m.n n A.count, A.same-weights, eq-eqb m.sender own s)

    refusal-logs : (m.sender ≡ own → ⊥) → logs_refusal dropped log m.dropped message-log ≡ refusal_of n own weights dropped log rest (Some m)
    unfolding refusal_of pick both
    refusal-logs d = rw (eq-eqb m.n n A.count, A.same-weights, ne_eqb m.sender own d)

    pub by-logs : (m.sender ≡ own → ⊥) → (x : Checked) → x ≡ checked_by (logs_refusal dropped log m.dropped message-log) dropped log m.dropped message-log
        → x ≡ checked_of n own weights dropped log rest (Some m)
    unfolding checked_of
    by-logs d x is = is ∙ ap (λ (k : ℕ). checked_by k dropped log m.dropped message-log) (refusal-logs d)

-- ── the protocol's number ──
own_first : (s a b c : Bool) → ◌≡◌ {A = ℕ} (pick s 9 (pick a 16 (pick b 17 (pick c 0 10)))) (pick s 9 (pick a 16 (pick b 17 (cond s 9 (cond c 0 10)))))
unfolding pick
own_first true a b c = refl
own_first false true b c = refl
own_first false false true c = refl
own_first false false false true = refl
own_first false false false false = refl

-- 7 where there is no message
pub refusal-folded : (n own : ℕ) (weights : List ℕ) (dropped : ℕ) (log rest : List ℕ) (o : Option Reading) (tails : List (List ℕ)) (noted : List ℕ)
    → refusal_of n own weights dropped log rest o ≡ option_map_or (λ m. pick (not (both (eqb m.n n) (same m.weights weights))) 8
    (refuse_folded_take own (packet_in rest m) (record { dropped = dropped; held = record { log = log; tails = tails }; noted = noted }))) o 7
unfolding refusal_of logs_refusal refuse_folded_take refuse_take
refusal-folded n own weights dropped log rest None tails noted = refl
refusal-folded n own weights dropped log rest (Some m) tails noted =
    let theirs : List ℕ = (packet_in rest m).state.log in
    ap (λ (k : ℕ). pick (not (both (eqb m.n n) (same m.weights weights))) 8 k)
    (own_first (eqb m.sender own) (ltb (dropped + length log) m.dropped) (ltb (m.dropped + length theirs) dropped)
    (comparable (drop (m.dropped - dropped) log) (drop (dropped - m.dropped) theirs)))
