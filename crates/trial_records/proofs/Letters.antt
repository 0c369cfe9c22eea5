-- What the definitions pick at each letter.
--     fits-64, fits_8, fits-32, fits-any      the parts that a line writes into, and the other lines
--     kept-f, kept-q, kept-j, kept-t      what is kept
--     set-r, set_p, set-k, set-n, set-kept, set-ballots      the record
-- Assumes nothing.
use Prim.Native.Nat.{ℕ}
use mathlib.Core.Bool.{true}
use mathlib.Core.Logic.{◌⊎◌, inl, inr}
use mathlib.Core.Path.{◌≡◌}
use borrow.Author.Tests.{ne_eqb}
use Rattle.lists.specs.Tests.{pick}
use Rattle.kept.specs.declared.Kept.{Kept}
use Rattle.frame.specs.declared.Record.{Record}
use Rattle.frame.specs.State.{with_kept, with_noted, with_ballots}
use Rattle.trial_lines.specs.declared.line.Line.{Line}
use Rattle.trial_lines.specs.Writing.{has_room, weights_from}
use Rattle.trial_records.specs.Setting.{
  letter_a,
  letter_f,
  letter_j,
  letter_k,
  letter_n,
  letter_p,
  letter_q,
  letter_r,
  letter_t,
  fits_record,
  with_present,
  with_codes,
  with_kept_summary,
  with_numbers,
  set_kept,
  set_head,
  set_ballots,
  with_summary,
  set_record,
}

module _ (l : Line) where
  -- the line has another letter
  abbrev Not : ℕ → Type 0
  Not letter = l.letter ≡ letter → ⊥

  pub fits-64 : (l.letter ≡ letter_j) ⊎ (l.letter ≡ letter_k) → fits_record l ≡ has_room l 2 1 l.first 64
  unfolding fits_record pick
  fits-64 (inl e) = rw e
  fits-64 (inr e) = rw e

  pub fits_8 : (l.letter ≡ letter_n) ⊎ (l.letter ≡ letter_t) → fits_record l ≡ has_room l 2 1 l.first 8
  unfolding fits_record pick
  fits_8 (inl e) = rw e
  fits_8 (inr e) = rw e

  pub fits-32 : l.letter ≡ letter_a → fits_record l ≡ has_room l 3 1 l.second 32
  unfolding fits_record pick
  fits-32 e = rw e

  pub fits-any : Not letter_j → Not letter_k → Not letter_t → Not letter_n → Not letter_a → fits_record l ≡ true
  unfolding fits_record pick
  fits-any j k t n a =
      let x = l.letter in
      rw (ne_eqb x letter_j j, ne_eqb x letter_k k, ne_eqb x letter_n n, ne_eqb x letter_t t, ne_eqb x letter_a a)

  module _ (k : Kept) where
    pub kept-f : l.letter ≡ letter_f → set_kept k l ≡ record { dropped = l.first; summary = k.summary; counts = k.counts }
    unfolding set_kept pick
    kept-f e = rw e

    pub kept-q : l.letter ≡ letter_q → set_kept k l ≡ with_kept_summary k (with_present k.summary (weights_from l 1))
    unfolding set_kept pick
    kept-q e = rw e

    pub kept-j : l.letter ≡ letter_j → set_kept k l ≡ with_kept_summary k (with_codes k.summary l)
    unfolding set_kept pick
    kept-j e = rw e

    pub kept-t : Not letter_f → Not letter_q → Not letter_j → set_kept k l ≡ record { dropped = k.dropped; summary = k.summary; counts = with_numbers k.counts l }
    unfolding set_kept pick
    kept-t f q j = let x = l.letter in rw (ne_eqb x letter_f f, ne_eqb x letter_q q, ne_eqb x letter_j j)

  module _ (r : Record) where
    pub set-r : l.letter ≡ letter_r → set_record r l ≡ set_head r l
    unfolding set_record pick
    set-r e = rw e

    pub set_p : l.letter ≡ letter_p → set_record r l ≡ with_summary r (with_present r.summary (weights_from l 1))
    unfolding set_record pick
    set_p e = rw e

    pub set-k : l.letter ≡ letter_k → set_record r l ≡ with_summary r (with_codes r.summary l)
    unfolding set_record pick
    set-k e = rw e

    pub set-n : l.letter ≡ letter_n → set_record r l ≡ with_noted r (with_numbers r.noted l)
    unfolding set_record pick
    set-n e = rw e

    abbrev pub OfKept : Type 0
    OfKept = (l.letter ≡ letter_f) ⊎ ((l.letter ≡ letter_j) ⊎ ((l.letter ≡ letter_q) ⊎ (l.letter ≡ letter_t)))

    pub set-kept : OfKept → set_record r l ≡ with_kept r (set_kept r.kept l)
    unfolding set_record pick
    set-kept (inl e) = rw e
    set-kept (inr (inl e)) = rw e
    set-kept (inr (inr (inl e))) = rw e
    set-kept (inr (inr (inr e))) = rw e

    pub set-ballots : Not letter_r → Not letter_p → Not letter_k → Not letter_n → (OfKept → ⊥) → set_record r l ≡ with_ballots r (set_ballots r.ballots l)
    unfolding set_record pick
    set-ballots a b c d none =
        let x = l.letter in
        rw (
          ne_eqb x letter_r a,
          ne_eqb x letter_p b,
          ne_eqb x letter_k c,
          ne_eqb x letter_n d,
          ne_eqb x letter_f (λ e. none (inl e)),
          ne_eqb x letter_j (λ e. none (inr (inl e))),
          ne_eqb x letter_q (λ e. none (inr (inr (inl e)))),
          ne_eqb x letter_t (λ e. none (inr (inr (inr e)))),
        )
