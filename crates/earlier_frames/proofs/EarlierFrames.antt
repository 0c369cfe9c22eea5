-- An office of the world keeps the codes of the entries that it has dropped, and dropped as many as it says: so what it shows are the last edits of its
-- settled log with them, and its runs are those of that log that have none of them. Assumes nothing.
use mathlib.Core.Path.{◌≡◌, refl, sym, ap, subst, ◌∙◌}
use mathlib.Core.Bool.{Bool, true, false}
use mathlib.Core.Logic.{◌⊎◌, inl, inr}
use mathlib.Core.List.{List, [], ◌++◌, map, append-nil}
use Rattle.std.specs.Prelude.{Option, Some}
use Prim.Native.Nat.{ℕ, ◌+◌, ◌-◌, ◌≤◌, ◌<◌, min}
use native.Mathlib.Omega.{arith}
use lib.Dec.{leb}
use lib.ListN.{length, get_or, take, drop, length-append, length-map}
use lib.Seq.{length-take-le, take-append-le, take-append-add, drop-append-add}
use borrow.Author.Tests.{leb-true, leb-false, le-leb}
use Rattle.lists.specs.Tests.{pick}
use Rattle.lists.proofs.Tests.{both_true}
use Rattle.lists.proofs.Padded.{padded-at}
use Rattle.protocol.specs.Beginning.{◌⊑◌}
use Rattle.protocol.specs.Codes.{cell, no_codes, codes_after}
use Rattle.protocol.specs.Frames.{last_edit}
use Rattle.protocol_laws.proofs.Beginning.{⊑-rest}
use Rattle.runs.specs.Runs.{Named, of_frame, edits_all, run_has, shortest_run, Shortest}
use Rattle.backward.specs.Cells.{placed}
use Rattle.backward.proofs.Placed.{get_or-mapped}
use Rattle.runs.proofs.Runs.{shortest-one, shortest-is}
use Rattle.kept.specs.declared.Kept.{Kept}
use Rattle.frame.specs.State.{held_by}
use Rattle.frame.specs.Soundness.{sound_b}
use Rattle.frame.proofs.Sound as frame
use Rattle.frame.proofs.State.{whole_length}
use Rattle.earlier.specs.Earlier.{first_of, earlier_done, earlier_refused, readable, earlier_of}
use Rattle.earlier.specs.Claims.{run_edits, Claims}
use Rattle.earlier.specs.declared.Earlier.{Earlier}
use Rattle.earlier.proofs.Claims as claims
use Rattle.earlier.proofs.Made.{earlier-no-line, earlier-many, earlier-done}
use Rattle.agreement.specs.World.{Replica, World, Call, replica_at, on_some, after}
use Rattle.agreement.specs.Demand.{Founded, says, order}
use Rattle.agreement.proofs.Demand.{one-order}
use Rattle.agreement.proofs.Calls.{always}
use Rattle.earlier_frames.specs.EarlierFrames.{answer, first, Within, Answered, EarlierFrames}

-- the shortest of the runs up to a length, by the shortest of all
least-part : (m p : ℕ) (part whole : ℕ → Bool) (r s : ℕ) → m ≤ p → ((i : ℕ) → i ≤ m → part i ≡ whole i) → Shortest m part r → Shortest p whole s → r ≡ min m s
least-part m p part whole r s l same a b = shortest-one m part r (min m s) a (record {
  within = omega arith;
  shorter = λ i h. same i (omega arith) ∙ b.shorter i (omega arith);
  found = found (leb s m) refl b.found;
})
  where
    found : (t : Bool) → leb s m ≡ t → (whole s ≡ true) ⊎ ((s ≡ p) × ((i : ℕ) → i ≤ p → whole i ≡ false))
        → (part (min m s) ≡ true) ⊎ ((min m s ≡ m) × ((i : ℕ) → i ≤ m → part i ≡ false))
    found true h (inl e) = let k : s ≤ m = leb-true s m h in let z : min m s ≡ s = omega arith in inl (ap part z ∙ same s k ∙ e)
    found true h (inr q) = let k : s ≤ m = leb-true s m h in inr (omega (arith, q.0), λ i j. same i j ∙ q.1 i (omega arith))
    found false h _ = let k : m < s = leb-false s m h in inr (omega arith, λ i j. same i j ∙ b.shorter i (omega arith))

-- the runs of a list that reach no further than the list behind x
run-behind : (lines x y : List ℕ) (i : ℕ) → i ≤ length y → edits_all lines (drop (length y - i) y) ≡ run_has lines (x ++ y) i
run-behind lines x y i h =
    let k : length x + (length y - i) ≡ length (x ++ y) - i = omega (arith, length-append x y) in
    ap (edits_all lines) (sym (drop-append-add x y (length y - i)) ∙ ap (λ (j : ℕ). drop j (x ++ y)) k)

-- the last edits of the lines, as the answer has them
abbrev last_edits : List ℕ → List ℕ → List ℕ
last_edits lines l = placed (map (λ (line : ℕ). cell (last_edit line l)) lines)

-- number and edits, by the lines and the first p entries
abbrev Shown : Type 0
Shown = ℕ × List ℕ

abbrev shown : Bool → Bool → List ℕ → Shown
shown a b edits = pick a (pick b (0, edits) (13, no_codes)) (3, no_codes)

module _ (n : ℕ) (weights : List ℕ) (start : World) (founded : Founded n weights start) where
  -- ── one office ──
  module _ (cs : List Call) (k : ℕ) (d : Replica) (e : replica_at (after start cs) k ≡ Some d) where
    counted : d.held.kept.dropped ≡ length d.former
    counted = (one-order n weights start founded cs).counted cs [] (append-nil cs) k d e

    codes : d.held.kept.summary.codes ≡ codes_after no_codes d.former
    codes = ap (λ (x : Kept). x.summary.codes) ((one-order n weights start founded cs).kept cs [] (append-nil cs) k d e)

    sound : sound_b d.held d.words ≡ true
    sound = (always n weights start founded cs).sound k d e

    settled : length (says d).log ≡ d.held.settled
    settled = omega (arith, length-append d.former (held_by d.held d.words).log, counted, whole_length d.held d.words (frame.sound d.held d.words sound))

    module _ (p : ℕ) (lines : List ℕ) where
      abbrev undropped : List ℕ
      undropped = first_of d.held d.words p

      never-1 : (answer d p lines).number ≡ 1 → ⊥
      unfolding earlier_of pick
      never-1 h = go (of_frame lines) (readable d.held p lines) (ap (λ (a : Bool). number a (of_frame lines) (readable d.held p lines)) (sym sound) ∙ h)
        where
          number : Bool → Bool → Bool → ℕ
          number a b c = (pick a (pick b (pick c (earlier_done d.held d.words p lines) (earlier_refused 13)) (earlier_refused 3)) (earlier_refused 1)).number

          go : (b c : Bool) → number true b c ≡ 1 → ⊥
          go true true x = omega arith
          go true false x = omega arith
          go false c x = omega arith

      module _ (w : Within d p) where
        first-is : d.former ++ undropped ≡ first d p
        first-is =
            let held : List ℕ = (held_by d.held d.words).log in
            let k : length d.former + (p - d.held.kept.dropped) ≡ p = omega (arith, counted, w.0) in
            sym (take-append-add d.former held (p - d.held.kept.dropped)) ∙ ap (λ (j : ℕ). take j (d.former ++ held)) k

        is-done : Named lines → (answer d p lines).number ≡ 0
        unfolding readable
        is-done named =
            let a : leb d.held.kept.dropped p ≡ true = le-leb d.held.kept.dropped p (omega (arith, counted, w.0)) in
            let b : leb p d.held.settled ≡ true = le-leb p d.held.settled (omega (arith, settled, w.1)) in
            ap (λ (x : Earlier). x.number) (sym (earlier-done d.held d.words p lines sound named.each (both_true _ _ a (both_true _ _ b (le-leb (length lines) 64 named.few)))))

        edits-are : (answer d p lines).number ≡ 0 → (answer d p lines).edits ≡ last_edits lines (first d p)
        edits-are h = claims.whole d.held d.words p lines h d.former codes ∙ ap (last_edits lines) first-is

        by_lines : ◌≡◌ {A = Shown} ((answer d p lines).number, (answer d p lines).edits) (shown (of_frame lines) (leb (length lines) 64) (last_edits lines (first d p)))
        unfolding pick
        by_lines = go (of_frame lines) refl (leb (length lines) 64) refl
          where
            go : (a : Bool) → of_frame lines ≡ a → (b : Bool) → leb (length lines) 64 ≡ b
                → ◌≡◌ {A = Shown} ((answer d p lines).number, (answer d p lines).edits) (shown a b (last_edits lines (first d p)))
            go true x true y =
                let z : (answer d p lines).number ≡ 0 = is-done (record { few = leb-true (length lines) 64 y; each = x }) in
                let edits = edits-are z in
                λ i. (z i, edits i)
            go true x false y = let z = sym (earlier-many d.held d.words p lines sound x (leb-false (length lines) 64 y)) in λ i. ((z i).number, (z i).edits)
            go false x b y = let z = sym (earlier-no-line d.held d.words p lines sound x) in λ i. ((z i).number, (z i).edits)

      answered : (answer d p lines).number ≡ 0 → Answered d p lines
      answered h = record {
        within = w;
        shows = λ i j. ap (λ (l : List ℕ). get_or l i 0) (edits-are w h) ∙ padded-at 64 0 (map last lines) i (omega (arith, length-map lines last)) ∙ get_or-mapped last lines i j;
        past = c.past;
        read =
            least-part (p - d.held.kept.dropped) (length (first d p)) (run_edits d.held d.words p lines) (run_has lines (first d p)) (answer d p lines).words (shortest_run lines (first d p))
            (omega (arith, length-take-le p (says d).log w.1)) run c.read (shortest-is lines (first d p))
            ∙ ap (λ (j : ℕ). min (p - j) (shortest_run lines (first d p))) counted;
      }
        where
          c : Claims d.held d.words p lines
          c = claims.done d.held d.words p lines h

          w : Within d p
          w = (omega (arith, c.past-dropped, counted), omega (arith, c.within, settled))

          last : ℕ → ℕ
          last line = cell (last_edit line (first d p))

          long : length undropped ≡ p - d.held.kept.dropped
          long = length-take-le (p - d.held.kept.dropped) (held_by d.held d.words).log (omega (arith, length-append d.former (held_by d.held d.words).log, counted, w.1))

          run : (i : ℕ) → i ≤ p - d.held.kept.dropped → run_edits d.held d.words p lines i ≡ run_has lines (first d p) i
          run i j =
              ap (λ (m : ℕ). edits_all lines (drop (m - i) undropped)) (sym long) ∙ run-behind lines d.former undropped i (omega (arith, long))
              ∙ ap (λ (l : List ℕ). run_has lines l i) (first-is w)

  -- ── two offices ──
  first-of : (cs a a' : List Call) → a ++ a' ≡ cs → (k : ℕ) (d : Replica) → replica_at (after start a) k ≡ Some d → (p : ℕ) → Within d p → first d p ≡ take p (order start cs)
  first-of cs a a' q k d e p w =
      let log : (says d).log ⊑ order start cs = subst (λ (x : Option Replica). on_some x [] (λ d. (says d).log) ⊑ order start cs) e ((one-order n weights start founded cs).logs a a' q k) in
      sym (take-append-le p (says d).log (drop (length (says d).log) (order start cs)) w.1) ∙ ap (take p) (⊑-rest (says d).log (order start cs) log)

  alike : (cs a a' b b' : List Call) → a ++ a' ≡ cs → b ++ b' ≡ cs
      → (j k : ℕ) (d e : Replica) → replica_at (after start a) j ≡ Some d → replica_at (after start b) k ≡ Some e
      → (p : ℕ) (lines : List ℕ) → Within d p → Within e p
      → ((answer d p lines).number ≡ (answer e p lines).number) × ((answer d p lines).edits ≡ (answer e p lines).edits)
  alike cs a a' b b' q r j k d e x y p lines v w = (ap (λ (s : Shown). s.0) both, ap (λ (s : Shown). s.1) both)
    where
      both : ◌≡◌ {A = Shown} ((answer d p lines).number, (answer d p lines).edits) ((answer e p lines).number, (answer e p lines).edits)
      both =
          by_lines a j d x p lines v
          ∙ ap (λ (l : List ℕ). shown (of_frame lines) (leb (length lines) 64) (last_edits lines l)) (first-of cs a a' q j d x p v ∙ sym (first-of cs b b' r k e y p w))
          ∙ sym (by_lines b k e y p lines w)

  pub earlier-frames : EarlierFrames start
  earlier-frames = record { answered = answered; done = is-done; alike = alike; sound = never-1 }
