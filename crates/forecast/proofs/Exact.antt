-- Request (xii): the claims of specs/Exact. The entry that wins under its own worst choice is the one that wins under every choice (`bounds`, Exact).
-- Assumes nothing.
use mathlib.Core.Path.{◌≡◌, refl, sym, ap, ◌∙◌}
use mathlib.Core.Bool.{Bool, true, false, true≢false}
use mathlib.Core.List.{List, [], ◌∷◌}
use Rattle.std.specs.Prelude.{Option, None, Ok, Err}
use Prim.Native.Nat.{ℕ, ◌-◌, ◌+◌}
use native.Mathlib.Decide.{ℕ_discrete}
use native.Mathlib.Omega.{arith}
use lib.Dec.{eqb}
use lib.ListN.{length, get_or, take, drop}
use lib.Seq.{length-take-le, get_or-drop}
use Rattle.lists.specs.Tests.{pick, all_b}
use Rattle.lists.proofs.Tests.{all_get_d}
use Rattle.protocol.specs.Counts.{counts_after, quieter}
use Rattle.protocol.specs.Limits.{is_empty}
use Rattle.protocol.specs.Moves.{weights_after}
use Rattle.protocol.specs.Office.{first, votes}
use Rattle.protocol.specs.Vote.{winner}
use Rattle.protocol_laws.proofs.Moves.{weights-length, weights-zero}
use Rattle.protocol_laws.proofs.Quieter.{quieter-asymmetric}
use Rattle.summary.specs.declared.Summary.{Summary}
use Rattle.ballots.specs.Ballots.{office_in}
use Rattle.ballots.specs.declared.Ballot.{Ballot}
use Rattle.refusals.specs.Refusals.{number_in}
use Rattle.refusals.specs.declared.Refusal.TheVariants.{Unsound, NoWeights}
use Rattle.bounds.specs.Bounds.{◌≼◌, fits, sure_winner}
use Rattle.bounds.proofs.Choices.{fits-true, fits-of, ≼_refl}
use Rattle.bounds.proofs.Exact as sure
use Rattle.bounds.proofs.Eight.{Silent, winner-eight, eight-zeros}
use Rattle.frame.specs.State.{held_by}
use Rattle.frame.specs.Soundness.{sound_b, Sound}
use Rattle.frame.specs.Electing.{tie_order, winner_of}
use Rattle.frame.specs.declared.Record.{Record}
use Rattle.frame.proofs.Sound.{sound}
use Rattle.frame.proofs.State.{folded-fine}
use Rattle.forecast.specs.Forecast.{bounds_of, named_of, forecast_number, forecast_of, winner_in}
use Rattle.forecast.specs.Exact.{Exact, Alike}

module _ (r : Record) (words lowest highest : List ℕ) where
  done-fits : forecast_number r words lowest highest ≡ 0 → (sound_b r words ≡ true) × (bounds_of r lowest ≼ bounds_of r highest)
  unfolding forecast_number pick
  done-fits q = go (sound_b r words) refl (fits (bounds_of r lowest) (bounds_of r highest)) refl q
    where
      go : (s : Bool) → sound_b r words ≡ s → (f : Bool) → fits (bounds_of r lowest) (bounds_of r highest) ≡ f → ◌≡◌ {A = ℕ} (pick s (pick f 0 15) 1) 0
          → (sound_b r words ≡ true) × (bounds_of r lowest ≼ bounds_of r highest)
      go false e f d h = absurd (omega arith)
      go true e false d h = absurd (omega arith)
      go true e true d h = (e, fits-true (bounds_of r lowest) (bounds_of r highest) d)

  pub refused_none : (number_in (forecast_of r words lowest highest) ≡ 0 → ⊥) → winner_in (forecast_of r words lowest highest) ≡ None
  unfolding forecast_of pick
  refused_none q = go (sound_b r words) (fits (bounds_of r lowest) (bounds_of r highest)) q
    where
      go : (s f : Bool) → (number_in (pick s (pick f (Ok (named_of r words lowest highest)) (Err NoWeights)) (Err Unsound)) ≡ 0 → ⊥)
          → winner_in (pick s (pick f (Ok (named_of r words lowest highest)) (Err NoWeights)) (Err Unsound)) ≡ None
      go true true h = absurd (h refl)
      go true false h = refl
      go false f h = refl

  -- the numbers of the paper
  pub number-is : number_in (forecast_of r words lowest highest) ≡ forecast_number r words lowest highest
  unfolding forecast_of forecast_number pick
  number-is = go (sound_b r words) (fits (bounds_of r lowest) (bounds_of r highest))
    where
      go : (s f : Bool) → ◌≡◌ {A = ℕ} (number_in (pick s (pick f (Ok (named_of r words lowest highest)) (Err NoWeights)) (Err Unsound))) (pick s (pick f 0 15) 1)
      go true true = refl
      go true false = refl
      go false f = refl

  -- a done call names what `named_of` does
  named-is : forecast_number r words lowest highest ≡ 0 → winner_in (forecast_of r words lowest highest) ≡ named_of r words lowest highest
  unfolding forecast_of forecast_number pick
  named-is q = go (sound_b r words) (fits (bounds_of r lowest) (bounds_of r highest)) q
    where
      go : (s f : Bool) → ◌≡◌ {A = ℕ} (pick s (pick f 0 15) 1) 0 → winner_in (pick s (pick f (Ok (named_of r words lowest highest)) (Err NoWeights)) (Err Unsound)) ≡ named_of r words lowest highest
      go true true h = refl
      go true false h = absurd (omega arith)
      go false f h = absurd (omega arith)

  pub exact : number_in (forecast_of r words lowest highest) ≡ 0 → Exact r words lowest highest
  exact p =
      let q = sym number-is ∙ p in
      let is = named-is q in
      let fit = (done-fits q).1 in
      let asymmetric = quieter-asymmetric (counts_after r.kept.counts (held_by r words).log) in
      let some-sure = sure.sure-some (tie_order r words) (bounds_of r lowest) (bounds_of r highest) fit (votes (held_by r words)) asymmetric in
      let none-sure = sure.sure-none (tie_order r words) (bounds_of r lowest) (bounds_of r highest) fit (votes (held_by r words)) in
      record {
        named = λ e. (λ h. (some-sure e).0 (sym is ∙ h), λ s. is ∙ (some-sure e).1 s);
        nobody = (λ h. none-sure.0 (sym is ∙ h), λ s. is ∙ none-sure.1 s);
        one = sure.surely-unique (tie_order r words) (bounds_of r lowest) (bounds_of r highest) fit (votes (held_by r words)) asymmetric;
      }

  -- "a total of zero counts as a choice"
  pub zero-none : all_b (eqb 0) (bounds_of r lowest) ≡ true → winner_in (forecast_of r words lowest highest) ≡ None
  zero-none z = go (ℕ_discrete (forecast_number r words lowest highest) 0)
    where
      go : Dec (forecast_number r words lowest highest ≡ 0) → winner_in (forecast_of r words lowest highest) ≡ None
      go (yes q) = named-is q ∙ sure.sure-zero (tie_order r words) (bounds_of r lowest) (bounds_of r highest) (done-fits q).1 (votes (held_by r words)) z
      go (no q) = refused_none (λ h. q (sym number-is ∙ h))

-- "Bounds from place n on aren't looked at"
pub before-n : (r : Record) (words lowest highest lowest' highest' : List ℕ) → bounds_of r lowest ≡ bounds_of r lowest' → bounds_of r highest ≡ bounds_of r highest'
    → forecast_of r words lowest highest ≡ forecast_of r words lowest' highest'
unfolding forecast_of forecast_number
before-n r words lowest highest lowest' highest' p q = rw (p, q)

named-alike : (r s : Record) (words lowest highest : List ℕ) → Alike r s → named_of r words lowest highest ≡ named_of s words lowest highest
named-alike r s words lowest highest a = λ i.
    named (a.offices i) (a.settled i - a.dropped i) (a.counts i) (a.ballots i)
  where
    named : ℕ → ℕ → List ℕ → List Ballot → Option ℕ
    named n held counts ballots = sure_winner (take n lowest) (take n highest) (quieter counts (take held words)) (votes (office_in words held ballots))

-- the weights of the records play no part
pub weights-aside : (r s : Record) (words lowest highest : List ℕ) → sound_b r words ≡ true → sound_b s words ≡ true → Alike r s
    → forecast_of r words lowest highest ≡ forecast_of s words lowest highest
unfolding forecast_of
weights-aside r s words lowest highest p q a = λ i.
    pick ((p ∙ sym q) i) (pick (fits (take (a.offices i) lowest) (take (a.offices i) highest)) (Ok (named-alike r s words lowest highest a i)) (Err NoWeights)) (Err Unsound)

-- the offices from place n on have no vote
silent : (r : Record) (words : List ℕ) → Sound r words → Silent r.n (votes (held_by r words))
unfolding is_empty
silent r words S k h = go (get_or (held_by r words).tails k []) refl
  where
    at : is_empty (get_or (held_by r words).tails k []) ≡ true
    at =
        let p : k ≡ r.n + (k - r.n) = omega arith in
        ap (λ (j : ℕ). is_empty (get_or (held_by r words).tails j [])) p ∙ ap is_empty (sym (get_or-drop r.n (held_by r words).tails (k - r.n) [])) ∙
        all_get_d is_empty [] (drop r.n (held_by r words).tails) (k - r.n) (folded-fine r words S).held.rest refl

    go : (t : List ℕ) → get_or (held_by r words).tails k [] ≡ t → first (get_or (held_by r words).tails k []) ≡ None
    go [] q = ap first q
    go (x ∷ t) q = absurd (true≢false (sym at ∙ ap is_empty q))

-- bounds that meet, at the present weights of a sound record s with the same offices, settled log and ballots: the winner of its election step
module _ (s : Record) (words : List ℕ) (S : Sound s words) where
  abbrev present : List ℕ
  present = s.summary.present

  follows : present ≡ weights_after s.kept.summary.present (held_by s words).log
  follows = ap (λ (x : Summary). x.present) S.done

  long : length present ≡ 8
  long = ap length follows ∙ weights-length s.kept.summary.present (held_by s words).log ∙ S.kept.eight

  zero : all_b (eqb 0) (drop s.n present) ≡ true
  zero = ap (λ (ws : List ℕ). all_b (eqb 0) (drop s.n ws)) follows ∙ weights-zero s.n s.kept.summary.present (held_by s words).log S.entries S.kept.rest

  quiet : Silent (length (take s.n present)) (votes (held_by s words))
  quiet k h = let m = S.head.most in silent s words S k (omega (arith, length-take-le s.n present (omega (arith, long))))

  met : named_of s words present present ≡ winner_of s words
  met =
      sure.sure-met (tie_order s words) (take s.n present) (votes (held_by s words)) ∙
      sym (winner-eight (tie_order s words) (take s.n present) (votes (held_by s words)) quiet) ∙
      ap (λ (ws : List ℕ). winner ws (tie_order s words) (votes (held_by s words))) (eight-zeros s.n present S.head.most long zero ∙ follows)

pub bounds-met : (r s : Record) (words : List ℕ) → sound_b r words ≡ true → sound_b s words ≡ true → Alike r s
    → forecast_of r words s.summary.present s.summary.present ≡ Ok (winner_of s words)
unfolding forecast_of forecast_number pick
bounds-met r s words p q a =
    let fit = fits-of (bounds_of r s.summary.present) (bounds_of r s.summary.present) (≼_refl (bounds_of r s.summary.present)) in
    rw (p, fit) (ap Ok (named-alike r s words s.summary.present s.summary.present a ∙ met s words (sound s words q)))
