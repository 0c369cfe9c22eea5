-- Every record of the world is sound with its log, and its codes are the last codes of its settled log, dropped entries included: these are all that a
-- sheet needs of an office. Assumes nothing.
use mathlib.Core.Path.{◌≡◌, sym, ap, subst, ◌∙◌}
use mathlib.Core.Bool.{Bool, true, false}
use mathlib.Core.Logic.{⊎_elim}
use mathlib.Core.List.{List, [], append-nil}
use Rattle.std.specs.Prelude.{Option, Some}
use Prim.Native.Nat.{ℕ}
use native.Mathlib.Omega.{arith}
use lib.ListN.{length}
use Rattle.lists.specs.Tests.{pick}
use Rattle.protocol.specs.Beginning.{◌⊑◌}
use Rattle.protocol.specs.Codes.{no_codes, codes_after}
use Rattle.protocol_laws.proofs.Beginning.{⊑-comparable, ⊑-cases, ⊏-length}
use Rattle.households.specs.Households.{are_households}
use Rattle.frame.specs.Soundness.{sound_b}
use Rattle.both_frames.specs.Frames.{all_lines_of}
use Rattle.frame.specs.declared.Record.{Record}
use Rattle.frame.proofs.Sound.{sound}
use Rattle.both_frames.proofs.Shown.{lines-shown}
use Rattle.sheet.specs.Sheet.{sheet_of, sheet_number}
use Rattle.sheet.proofs.Claims as claims
use Rattle.agreement.specs.World.{Replica, World, Call, replica_at, on_some, after}
use Rattle.agreement.specs.Demand.{Founded, says, order}
use Rattle.agreement.proofs.Demand.{one-order}
use Rattle.agreement.proofs.Calls.{always}
use Rattle.equal_sheets.specs.EqualSheets.{EqualSheets, printed}

-- the lines' settled codes are those of the settled log, dropped entries included
settled_lines : (r : Record) (words log : List ℕ) → sound_b r words ≡ true → r.summary.codes ≡ codes_after no_codes log
    → all_lines_of r words ≡ record { number = 0; codes = codes_after no_codes log }
settled_lines r words log e q = sym (lines-shown r words e (sound r words e)) ∙ ap (λ (codes : List ℕ). record { number = 0; codes = codes }) q

sound-sheet : (r : Record) (words s : List ℕ) → sound_b r words ≡ true → (sheet_of r words s).number ≡ 1 → ⊥
unfolding sheet_of sheet_number pick
sound-sheet r words s e q = go (are_households s) (ap (λ (b : Bool). number b (are_households s)) (sym e) ∙ q)
  where
    number : Bool → Bool → ℕ
    number a b = pick a (pick b 0 12) 1

    go : (b : Bool) → number true b ≡ 1 → ⊥
    go true h = omega arith
    go false h = omega arith

-- two beginnings of one list that are as long are the same
same_length : (a b c : List ℕ) → a ⊑ c → b ⊑ c → length a ≡ length b → a ≡ b
same_length a b c p q h = ⊎_elim (λ l. ⊎_elim (λ e. e) (λ x. absurd (omega (arith, ⊏-length a b x))) (⊑-cases a b l)) (λ x. absurd (omega (arith, ⊏-length b a x))) (⊑-comparable a b c p q)

module _ (n : ℕ) (weights : List ℕ) (start : World) (founded : Founded n weights start) where
  equal : (cs ds : List Call) (j k : ℕ) (d e : Replica) → replica_at (after start cs) j ≡ Some d → replica_at (after start ds) k ≡ Some e
      → (says d).log ≡ (says e).log → (s : List ℕ) → printed d s ≡ printed e s
  equal cs ds j k d e p q h =
      let a = always n weights start founded cs in
      let b = always n weights start founded ds in
      claims.equal-sheets d.held e.held d.words e.words
      (settled_lines d.held d.words (says d).log (a.sound j d p) (a.codes j d p)
      ∙ ap (λ (log : List ℕ). record { number = 0; codes = codes_after no_codes log }) h
      ∙ sym (settled_lines e.held e.words (says e).log (b.sound k e q) (b.codes k e q)))

  log-at : (cs : List Call) (k : ℕ) (d : Replica) → replica_at (after start cs) k ≡ Some d → (says d).log ⊑ order start cs
  log-at cs k d e = subst (λ (x : Option Replica). on_some x [] (λ d. (says d).log) ⊑ order start cs) e ((one-order n weights start founded cs).logs cs [] (append-nil cs) k)

  pub equal-sheets : EqualSheets start
  equal-sheets = record {
    equal = equal;
    as_long = λ cs j k d e p q h. equal cs cs j k d e p q (same_length (says d).log (says e).log (order start cs) (log-at cs j d p) (log-at cs k e q) h);
    sound = λ cs k d p s. sound-sheet d.held d.words s ((always n weights start founded cs).sound k d p);
  }
