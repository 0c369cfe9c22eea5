-- The entries that elect settles of a table.
--     settled-few       they are few, whatever the record
--     settled-count     and elect answers a small count
--     table-elects      of three founded offices: elect is done, and they are those of the protocol's election
-- Assumes nothing.
use mathlib.Core.Path.{◌≡◌, refl, sym, ap, subst, ◌∙◌}
use mathlib.Core.Bool.{Bool, true, false}
use mathlib.Core.List.{List, [], ◌∷◌, map, flat_map}
use Prim.Native.Nat.{ℕ, ◌≤◌}
use native.Mathlib.Omega.{arith}
use native.Mathlib.Nat.{min-le_left}
use lib.ListN.{length, take, replicate, length-take, length-append}
use lib.Seq.{take-take}
use borrow.Author.Tests.{ltb-true, lt-ltb}
use Rattle.lists.specs.Tests.{both, all_b, pick}
use Rattle.lists.proofs.Tests.{both-0, both_true, all-at, all-mono, all_take, all_replicate}
use Rattle.protocol.specs.Entry.{office_of, proper, is_entry}
use Rattle.protocol.specs.Counts.{counts_after}
use Rattle.protocol.specs.Fair.{fair}
use Rattle.protocol.specs.Office.{Office}
use Rattle.protocol.specs.Limits.{length_limit, is_empty, tail_fine}
use Rattle.protocol.specs.SettledRule.{by_settled}
use Rattle.protocol.specs.Elect.{tail_entries, with_elect}
use Rattle.protocol.specs.Folding.{FoldedOffice, with_folded_elect}
use Rattle.protocol_laws.proofs.Elect.{elect-most}
use Rattle.protocol_laws.proofs.Limits as Limits
use Rattle.protocol_laws.proofs.FoldedLimits.{FoldedFine, unfolded-fine}
use Rattle.ballots.specs.Ballots.{ballot_of, no_ballot}
use Rattle.ballots.proofs.Laws.{tail-of}
use Rattle.summary.specs.Summary.{start_with}
use Rattle.summary.proofs.Laws.{summary-nil}
use Rattle.frame.specs.State.{held_length, held_by, with_held, holding_behind, fresh_record}
use Rattle.frame.specs.Soundness.{sound_b, Sound}
use Rattle.frame.specs.Electing.{rule_of, elect_of, elect_words}
use Rattle.frame.specs.declared.Record.{Record}
use Rattle.frame.specs.declared.electing.Elected.{Elected}
use Rattle.frame.proofs.Sound.{sound-true}
use Rattle.frame.proofs.State.{log-length, held-behind, sound-behind}
use Rattle.frame.proofs.Found.{found-done, found-sound}
use Rattle.frame.proofs.Elect.{elect-unsound, elect-zero, elect-done, elect-sound, elect-state, elect-grows}
use Rattle.tables.specs.Tables.{tails}
use Rattle.tables.specs.Listed.{small_tail, small_table}
use Rattle.tables.proofs.Listed.{small-place}
use Rattle.table_lines.specs.Lines.{empty_log, with_table, settled_from, table_settled, table_office, few}
use Rattle.table_lines.specs.Answers.{founded}
use Rattle.table_lines.proofs.Shown.{one_digit, few-of}
use Rattle.table_lines.proofs.Small.{Three, three, small-two}

-- ── they are few ──
-- the tails that the record holds are the table's, and five empty ones
tails-held : (r : Record) (t : List (List ℕ)) → Three t → (held_by (with_table r (map ballot_of t)) empty_log).tails ≡ (table_office t).tails
tails-held r t T = rw T.are (λ i. tail-of T.x i ∷ tail-of T.y i ∷ tail-of T.z i ∷ replicate 5 [])

six : (t : List (List ℕ)) → Three t → tail_entries (table_office t).tails ≤ 6
six t T = rw T.are (omega (arith, small-two T.x T.small-x, small-two T.y T.small-y, small-two T.z T.small-z))

entry-digit : (n : ℕ) → n ≤ 8 → (e : ℕ) → is_entry n e ≡ true → one_digit e ≡ true
unfolding is_entry
entry-digit n h e q = lt-ltb (office_of e) 10 (omega (arith, ltb-true (office_of e) n (both-0 _ _ q)))

module _ (r : Record) (t : List (List ℕ)) (small : small_table t ≡ true) where
  R : Record
  R = with_table r (map ballot_of t)

  -- as a sound record's election answers
  record Counted : Type 0 where
    most : (elect_of R empty_log).count ≤ 6
    entries : all_b one_digit (settled_from R) ≡ true

  unsound : sound_b R empty_log ≡ false → Counted
  unfolding R all_b
  unsound e =
      let none : (elect_of R empty_log).count ≡ 0 = sym (ap (λ (x : Elected). x.count) (elect-unsound R empty_log e).0) in
      record { most = omega (arith, none); entries = rw none refl }

  is-sound : sound_b R empty_log ≡ true → Counted
  unfolding R
  is-sound e =
      let q = elect-zero R empty_log e in
      let D = elect-done R empty_log q in
      let S = elect-sound R empty_log q in
      let k = (elect_of R empty_log).count in
      let held = held_length (elect_of R empty_log).«record» in
      let g = elect-grows R empty_log q in
      let within : k ≤ held =
      omega (arith, g.2, ap length g.1, length-append (held_by R empty_log).log g.0, log-length (elect_of R empty_log).«record» (elect_words R empty_log) S) in
      let T = three t small in
      let count : k ≤ 6 = omega (arith, D.counted, elect-most (rule_of R) (held_by R empty_log), ap tail_entries (tails-held r t T), six t T) in
      let n = (elect_of R empty_log).«record».n in
      let front : all_b (is_entry n) (settled_from R) ≡ true =
      subst (λ (l : List ℕ). all_b (is_entry n) l ≡ true) (take-take k held (elect_words R empty_log) within)
      (all_take (is_entry n) k (take held (elect_words R empty_log)) S.entries) in
      record { most = count; entries = all-mono (is_entry n) one_digit (entry-digit n S.head.most) (settled_from R) front }

  counts : Counted
  counts = go (sound_b R empty_log) refl
    where
      go : (b : Bool) → sound_b R empty_log ≡ b → Counted
      go true e = is-sound e
      go false e = unsound e

  pub settled-few : few (table_settled r t) ≡ true
  unfolding R
  settled-few =
      let k = (elect_of R empty_log).count in
      few-of (settled_from R) (omega (arith, length-take k (elect_words R empty_log), min-le_left k (length (elect_words R empty_log)), counts.most)) counts.entries

  pub settled-count : (elect_of (with_table r (map ballot_of t)) empty_log).count ≤ 6
  unfolding R
  settled-count = counts.most

-- ── of founded offices ──
tails-fine : all_b (tail_fine 3 0) tails ≡ true
unfolding tails flat_map all_b both pick tail_fine is_entry proper fair counts_after
tails-fine = refl

small-fine : (t : List ℕ) → small_tail t ≡ true → tail_fine 3 0 t ≡ true
small-fine t h =
    let p = small-place t h in
    subst (λ (x : List ℕ). tail_fine 3 0 x ≡ true) p.1.1 (all-at (tail_fine 3 0) [] tails p.0 tails-fine p.1.0)

none-fine : tail_fine 3 0 [] ≡ true
unfolding small_tail both all_b
none-fine = small-fine [] refl

office-fine : (t : List (List ℕ)) → Three t → Limits.Fine 3 (table_office t)
unfolding all_b is_empty both
office-fine t T =
    rw T.are (record {
      eight = refl;
      most = omega arith;
      entries = refl;
      tails = both_true _ _ (small-fine T.x T.small-x)
          (both_true _ _ (small-fine T.y T.small-y) (both_true _ _ (small-fine T.z T.small-z) (all_replicate (tail_fine 3 0) 5 [] none-fine)));
      rest = refl;
    })

-- a sound record with an empty log settles what the protocol's election of its state settles
module _ (R : Record) (o : Office) (S : Sound R empty_log) (held : held_by R empty_log ≡ o) (empty : o.log ≡ []) where
  elects : ((elect_of R empty_log).number ≡ 0) × (settled_from R ≡ (with_elect (rule_of R) o).log)
  unfolding with_folded_elect
  elects =
      let q = elect-zero R empty_log (sound-true R empty_log S) in
      let last = (elect_of R empty_log).«record» in
      let g = elect-grows R empty_log q in
      let none : length (held_by R empty_log).log ≡ 0 = ap length (ap (λ (x : Office). x.log) held ∙ empty) in
      let all : (elect_of R empty_log).count ≡ held_length last =
      omega (arith, g.2, ap length g.1, length-append (held_by R empty_log).log g.0, none, log-length last (elect_words R empty_log) (elect-sound R empty_log q)) in (
        q,
        ap (λ (k : ℕ). take k (elect_words R empty_log)) all ∙ ap (λ (x : FoldedOffice). x.held.log) (elect-state R empty_log q)
            ∙ ap (λ (x : Office). (with_elect (rule_of R) x).log) held,
      )

-- an office that holds a table, and has dropped and heard nothing
abbrev table_folded : List (List ℕ) → FoldedOffice
table_folded t = record { dropped = 0; held = table_office t; noted = replicate 8 0 }

folded-fine : (t : List (List ℕ)) → Three t → FoldedFine 3 0 (table_folded t)
unfolding length_limit
folded-fine t T =
    let F = office-fine t T in
    let none = unfolded-fine 3 0 in
    record { held = F; short = λ j. omega (arith, (Limits.tail_at 3 (table_office t) F j).short); noted = none.noted; eight = none.eight; unused = none.unused }

module _ (ws : List ℕ) (done : (founded ws).number ≡ 0) (t : List (List ℕ)) (small : small_table t ≡ true) where
  abbrev fresh : Record
  fresh = fresh_record 3 0 ws

  abbrev held : Record
  held = holding_behind fresh fresh.kept (table_folded t)

  -- the founded record with the table's ballots holds the table
  table-held : with_table (founded ws).«record» (map ballot_of t) ≡ held
  table-held =
      ap (λ (x : Record). with_table x (map ballot_of t)) (found-done 3 0 ws empty_log done).made ∙ fresh-table (three t small)
    where
      fresh-table : Three t → with_table fresh (map ballot_of t) ≡ held
      fresh-table T =
          rw T.are (λ i. with_held fresh fresh.kept (replicate 8 0) (sym (summary-nil (start_with ws)) i) 0
          (ballot_of T.x ∷ ballot_of T.y ∷ ballot_of T.z ∷ replicate 5 no_ballot))

  -- "with the entries that elect settles from an empty log"
  pub table-elects : ((elect_of (with_table (founded ws).«record» (map ballot_of t)) empty_log).number ≡ 0)
      × (table_settled (founded ws).«record» t ≡ (with_elect (by_settled ws) (table_office t)).log)
  table-elects =
      let D = found-done 3 0 ws empty_log done in
      let new : Sound fresh empty_log = subst (λ (x : Record). Sound x empty_log) D.made (found-sound 3 0 ws empty_log done) in
      let S : Sound held empty_log = sound-behind fresh fresh.kept (table_folded t) empty_log D.head new.kept refl (folded-fine t (three t small)) D.room in
      subst (λ (x : Record). ((elect_of x empty_log).number ≡ 0) × (settled_from x ≡ (with_elect (by_settled ws) (table_office t)).log)) (sym table-held)
      (elects held (table_office t) S (ap (λ (x : FoldedOffice). x.held) (held-behind fresh fresh.kept (table_folded t) refl empty_log)) refl)
