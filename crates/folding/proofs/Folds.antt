-- What fold answers and leaves.
--     fold-unsound, fold-made    each way out of the call
--     fold-sound, fold-state     a done fold leaves a sound record with its words, and the protocol's office
--     fold-keeps                 a refused one leaves both
-- Assumes nothing.
use mathlib.Core.Path.{◌≡◌, refl, sym, ap, ap₂, subst₂, ◌∙◌}
use mathlib.Core.Bool.{Bool, true, false}
use mathlib.Core.List.{List}
use Prim.Native.Nat.{ℕ, ◌+◌, ◌-◌, ◌≤◌}
use native.Mathlib.Omega.{arith}
use lib.ListN.{length, take, drop, length-drop, take-append-drop}
use lib.Seq.{take-take}
use Rattle.lists.specs.Tests.{pick}
use Rattle.protocol.specs.Folding.{least_known, fold_count, with_fold}
use Rattle.protocol_laws.proofs.Folding as Folding
use Rattle.protocol_laws.proofs.FoldedLimits.{fold-fine}
use Rattle.ballots.specs.Ballots.{words_with}
use Rattle.ballots.proofs.Laws as B
use Rattle.summary.specs.Summary.{summary_after}
use Rattle.summary.proofs.Laws.{summary-append}
use Rattle.kept.specs.Kept.{kept_after}
use Rattle.kept.specs.declared.Kept.{Kept}
use Rattle.frame.specs.State.{held_length, held_by, folded_by, with_held, kept_by, holding}
use Rattle.frame.specs.Soundness.{sound_b, Sound}
use Rattle.folding.specs.Folding.{shortened_of, fold_of, fold_words}
use Rattle.frame.specs.declared.Record.{Record}
use Rattle.folding.specs.declared.Folded.{Folded}
use Rattle.frame.proofs.Sound.{sound}
use Rattle.frame.proofs.State.{log-length, whole_length, folded-fine, folded-by, sound-of}

pub fold-unsound : (r : Record) (words : List ℕ) → sound_b r words ≡ false → (◌≡◌ {A = Folded} (record { «record» = r; number = 1; count = 0 }) (fold_of r words)) × (words ≡ fold_words r words)
unfolding fold_of fold_words pick
fold-unsound r words e = (simp e, simp e)

-- ── how many entries go ──
abbrev pub gone_of : Record → List ℕ → ℕ
gone_of r words = fold_count r.n r.own (folded_by r words)

module _ (r : Record) (words : List ℕ) (S : Sound r words) where
  -- what the code counts
  pub gone-is : (k : ℕ) → k ≡ least_known r.own r.settled r.noted r.n - r.kept.dropped → k ≡ gone_of r words
  unfolding fold_count
  gone-is k e = e ∙ ap (λ (l : ℕ). least_known r.own l r.noted r.n - r.kept.dropped) (sym (whole_length r words S))

  pub gone-within : gone_of r words ≤ held_length r
  gone-within = omega (arith, Folding.fold-held r.n r.own (folded_by r words), log-length r words S)

  more : r.kept.dropped ≤ (shortened_of r words).dropped
  unfolding with_fold
  more = omega arith

  within : (shortened_of r words).dropped ≤ r.settled
  unfolding with_fold
  within = omega (arith, gone-within, S.within)

  -- ── the record that is left ──
  abbrev log : List ℕ
  log = (held_by r words).log

  -- what the log has done is done by the dropped entries and then by the rest
  rest-done : (k : ℕ) → summary_after (kept_after r.kept (take k log)).summary (drop k log) ≡ r.summary
  rest-done k = sym (S.done ∙ ap (summary_after r.kept.summary) (sym (take-append-drop k log)) ∙ summary-append r.kept.summary (take k log) (drop k log))

  -- with the code's count k, and what it keeps
  pub fold-held : (k : ℕ) → k ≡ gone_of r words → (x : Kept) → x ≡ kept_after r.kept (take k words)
      → with_held r x r.noted r.summary r.settled r.ballots ≡ holding r words (shortened_of r words)
  unfolding with_fold
  fold-held k e x q =
      let d : r.kept.dropped + gone_of r words - r.kept.dropped ≡ k = omega (arith, e) in
      let front : take k words ≡ take (r.kept.dropped + gone_of r words - r.kept.dropped) log =
      sym (take-take k (held_length r) words (omega (arith, e, gone-within))) ∙ ap (λ (j : ℕ). take j log) (sym d) in
      let kept = q ∙ ap (kept_after r.kept) front in
      let done : r.summary ≡ summary_after (kept_by r words (shortened_of r words)).summary (drop (gone_of r words) log) =
      sym (ap (λ (j : ℕ). summary_after (kept_after r.kept (take j log)).summary (drop (gone_of r words) log)) (d ∙ e) ∙ rest-done (gone_of r words)) in
      let settled : r.settled ≡ r.kept.dropped + gone_of r words + length (drop (gone_of r words) log) =
      omega (arith, length-drop (gone_of r words) log, log-length r words S, gone-within, S.within) in
      λ i. with_held r (kept i) r.noted (done i) (settled i) (sym (B.held_all r.n (held_length r) r.ballots S.fine) i)

-- ── the whole answer ──
pub fold-made : (r : Record) (words : List ℕ) → sound_b r words ≡ true → (k : ℕ) → k ≡ gone_of r words → (x : Kept) → x ≡ kept_after r.kept (take k words)
    → (last : List ℕ) → last ≡ words_with (drop k (held_by r words).log) words
    → (◌≡◌ {A = Folded} (record { «record» = with_held r x r.noted r.summary r.settled r.ballots; number = 0; count = k }) (fold_of r words)) × (last ≡ fold_words r words)
unfolding fold_of fold_words with_fold pick
fold-made r words e k c x q last l =
    (rw e (λ i. record { «record» = fold-held r words (sound r words e) k c x q i; number = 0; count = c i }), rw e (l ∙ ap (λ (j : ℕ). words_with (drop j (held_by r words).log) words) c))

pub fold-zero : (r : Record) (words : List ℕ) → sound_b r words ≡ true → (fold_of r words).number ≡ 0
unfolding fold_of pick
fold-zero r words e = rw e

-- a done fold
pub record FoldDone (r : Record) (words : List ℕ) : Type 0 where
  pub was : Sound r words
  pub made : (fold_of r words).«record» ≡ holding r words (shortened_of r words)
  pub counted : (fold_of r words).count ≡ gone_of r words
  pub written : fold_words r words ≡ words_with (shortened_of r words).held.log words

pub fold_done : (r : Record) (words : List ℕ) → (fold_of r words).number ≡ 0 → FoldDone r words
unfolding fold_of fold_words pick
fold_done r words q = go (sound_b r words) refl
  where
    go : (b : Bool) → sound_b r words ≡ b → FoldDone r words
    go true e = record { was = sound r words e; made = rw e; counted = rw e; written = rw e }
    go false e = absurd (omega (arith, q, ap (λ (x : Folded). x.number) (fold-unsound r words e).0))

module _ (r : Record) (words : List ℕ) (q : (fold_of r words).number ≡ 0) where
  pub fold-sound : Sound (fold_of r words).«record» (fold_words r words)
  fold-sound =
      let D = fold_done r words q in
      let S = D.was in
      subst₂ Sound (sym D.made) (sym D.written)
      (sound-of r words S (shortened_of r words) (more r words S) (within r words S) (fold-fine r.n r.own (folded_by r words) (folded-fine r words S)))

  pub fold-state : folded_by (fold_of r words).«record» (fold_words r words) ≡ shortened_of r words
  fold-state =
      let D = fold_done r words q in
      let S = D.was in
      ap₂ folded_by D.made D.written ∙ folded-by r words S (shortened_of r words) (more r words S) (within r words S)

  pub fold-kept : (fold_of r words).«record».kept ≡ kept_by r words (shortened_of r words)
  fold-kept = ap (λ (x : Record). x.kept) (fold_done r words q).made

pub fold-keeps : (r : Record) (words : List ℕ) → ((fold_of r words).number ≡ 0 → ⊥) → ((fold_of r words).«record» ≡ r) × (fold_words r words ≡ words)
fold-keeps r words q = go (sound_b r words) refl
  where
    go : (b : Bool) → sound_b r words ≡ b → ((fold_of r words).«record» ≡ r) × (fold_words r words ≡ words)
    go true e = absurd (q (fold-zero r words e))
    go false e = let u = fold-unsound r words e in (sym (ap (λ (x : Folded). x.«record») u.0), sym u.1)
