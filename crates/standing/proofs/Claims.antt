-- The claims of specs/Claims. Assumes nothing.
use mathlib.Core.Path.{◌≡◌, refl, sym, ap, subst, subst₂, ◌∙◌}
use mathlib.Core.Bool.{Bool, true, false, cond}
use mathlib.Core.Logic.{◌↔◌}
use mathlib.Core.List.{List, [], ◌∷◌, ◌++◌, map, append_assoc}
use Rattle.std.specs.Prelude.{Option, None, Some}
use Rattle.std.proofs.lemmas.Option.{none-some}
use Prim.Native.Nat.{ℕ, ◌+◌, ◌-◌, ◌<◌, ◌≤◌}
use native.Mathlib.Decide.{dec_lt}
use native.Mathlib.Omega.{arith}
use lib.Dec.{eqb}
use lib.ListN.{length, get_or, drop, length-map, length-append}
use lib.Seq.{get_or-drop, get_or_at, get_or-set_same, get_or-set_other}
use borrow.Author.Tests.{eqb-true}
use Rattle.lists.specs.Tests.{all_b, times}
use Rattle.lists.proofs.Tests.{all_get_d}
use Rattle.lists.proofs.Padded.{padded-past}
use Rattle.protocol.specs.Counts.{quieter}
use Rattle.protocol.specs.Elect.{settle, with_elect, elect_count}
use Rattle.protocol.specs.Folding.{with_folded_elect}
use Rattle.protocol.specs.Limits.{total}
use Rattle.protocol.specs.Moves.{weights_after, weight_of}
use Rattle.protocol.specs.Office.{Office, first, votes}
use Rattle.protocol.specs.Vote.{Votes, is_none, tally, unheard, winner, Rule}
use Rattle.protocol.specs.Winning.{Supported}
use Rattle.protocol_laws.proofs.Elect.{elect-log, elect-none, elect-some}
use Rattle.protocol_laws.proofs.Moves.{weights-length, weights-total, weights-zero}
use Rattle.protocol_laws.proofs.Vote.{NamesVoted, by_log-voted}
use Rattle.summary.specs.declared.Summary.{Summary}
use Rattle.ballots.specs.Ballots.{tail_of, off_end, words_with}
use Rattle.ballots.specs.declared.Ballot.{Ballot}
use Rattle.lists.specs.Padded.{in_eight}
use Rattle.rows.specs.Rows.{row_entries, rows_of, marks}
use Rattle.frame.specs.State.{held_length, held_by}
use Rattle.frame.specs.Soundness.{sound_b, Sound}
use Rattle.frame.specs.Electing.{tie_order, rule_of, elect_of, elect_words, winner_of}
use Rattle.frame.specs.declared.Record.{Record}
use Rattle.frame.proofs.State.{log-length, tail_at}
use Rattle.frame.proofs.Sound.{sound-true}
use Rattle.frame.proofs.Elect.{ElectDone, elect-zero, elect-done}
use Rattle.standing.specs.Standing.{standing_by, refused, standing_of}
use Rattle.standing.specs.Leader.{rows_in, entries_in, weights_in, weight_in, first_leader, leader}
use Rattle.standing.specs.Claims.{vote_of, Shows, Decides, OneVoteMore, Adds, with_ballot}
use Rattle.standing.specs.declared.Standing.{Standing}
use Rattle.standing.proofs.Table as table
use Rattle.standing.proofs.Table.{rows_by}
use Rattle.standing.proofs.Rise as rise
use Rattle.standing.proofs.Answer.{standing-sound, standing-unsound, done, votes-silent}

-- ── a sound record ──
module _ (r : Record) (words : List ℕ) (S : Sound r words) where
  abbrev ws : List ℕ
  ws = r.summary.present

  follows : ws ≡ weights_after r.kept.summary.present (held_by r words).log
  follows = ap (λ (x : Summary). x.present) S.done

  long : length ws ≡ 8
  long = ap length follows ∙ weights-length r.kept.summary.present (held_by r words).log ∙ S.kept.eight

  same_total : total ws ≡ total r.weights
  same_total = ap total follows ∙ weights-total r.kept.summary.present (held_by r words).log ∙ S.kept.same_total

  zero-past : (k : ℕ) → r.n ≤ k → get_or ws k 0 ≡ 0
  zero-past k h =
      let at : k ≡ r.n + (k - r.n) = omega arith in
      let zero = ap (λ (us : List ℕ). all_b (eqb 0) (drop r.n us)) follows ∙
      weights-zero r.n r.kept.summary.present (held_by r words).log S.entries S.kept.rest in
      ap (λ (j : ℕ). get_or ws j 0) at ∙ sym (get_or-drop r.n ws (k - r.n) 0) ∙
      sym (eqb-true 0 _ (all_get_d (eqb 0) 0 (drop r.n ws) (k - r.n) zero refl))

  -- the office that supports an entry is one of the n
  supporter : (e : ℕ) → Supported ws (vote_of r words) e ↔ ((k : ℕ) × (k < r.n) × (vote_of r words k ≡ Some e))
  supporter e = (λ s. (s.0, below s.0 s.2 (dec_lt s.0 r.n), s.2), λ s. (s.0, let m = S.head.most in omega (arith, long, s.1), s.2))
    where
      below : (k : ℕ) → vote_of r words k ≡ Some e → Dec (k < r.n) → k < r.n
      below k q (yes h) = h
      below k q (no h) = absurd (none-some e (sym (votes-silent r words S k (omega arith)) ∙ q))

  abbrev answer : Standing
  answer = standing_by r.n ws (vote_of r words)

  answer-rows : rows_in answer ≡ rows_by ws (vote_of r words)
  unfolding rows_of
  answer-rows = table.rows_in ws (vote_of r words) (row_entries ws (vote_of r words))

  shown : Shows r words answer
  unfolding rows_of
  shown =
      let v = vote_of r words in
      let ds = row_entries ws v in
      let ts = length-map ds (tally ws v) in
      record {
        once = λ e. subst (λ rs. times e (entries_in rs) ≤ 1) (sym answer-rows) (table.rows-once ws v e);
        supports = λ e. subst (λ rs. (times e (entries_in rs) ≡ 1) ↔ ((k : ℕ) × (k < r.n) × (v k ≡ Some e))) (sym answer-rows)
            (λ h. (supporter e).0 ((table.rows-supported ws v e).0 h), λ s. (table.rows-supported ws v e).1 ((supporter e).1 s));
        weighs = λ e. ap (weight_in e) answer-rows ∙ table.row-weight ws v e;
        missing = refl;
        adds-up = ap (λ rs. total (weights_in rs) + unheard ws v) answer-rows ∙ table.rows-total ws v ∙ same_total;
        silent-is = table.marks-at r.n v;
        silent-weighs = table.marks-weight r.n ws v zero-past;
        few = table.rows_few r.n ws v (votes-silent r words S);
        past-rows = λ i h. (padded-past 8 0 ds i h, padded-past 8 0 (map (tally ws v) ds) i (omega (arith, ts)));
        past-offices = table.marks-past r.n v;
      }

  -- ── what elect settles first ──
  abbrev rule : Rule
  rule = rule_of r

  voted : NamesVoted rule
  voted = by_log-voted (weights_after r.kept.summary.present) (quieter r.kept.counts)

  leads : leader (tie_order r words) answer ≡ winner_of r words
  unfolding leader
  leads =
      let v = vote_of r words in
      ap (λ rs. first_leader (tie_order r words) (unheard ws v) rs rs) answer-rows ∙ table.leader-wins ws (tie_order r words) v ∙
      ap (λ (us : List ℕ). winner us (tie_order r words) v) follows

  elected : ElectDone r words
  elected = elect-done r words (elect-zero r words (sound-true r words S))

  settles-none : winner_of r words ≡ None → (elect_of r words).count ≡ 0
  settles-none q = omega (arith, elected.counted, ap (λ (o : Office). length o.log) (elect-none rule (held_by r words) q))

  -- where an entry wins, elect settles one more than behind it
  count-some : (o : Office) (e : ℕ) → rule o.log (votes o) ≡ Some e → elect_count rule o ≡ 1 + elect_count rule (settle e o)
  unfolding settle
  count-some o e q =
      let l : ℕ = length (with_elect rule (settle e o)).log in
      let g = elect-log rule (settle e o) in
      let whole : l ≡ length (o.log ++ (e ∷ [])) + length g.0 = ap length g.1 ∙ length-append (o.log ++ (e ∷ [])) g.0 in
      omega (arith, ap (λ (r : Office). length r.log) (elect-some rule voted o e q), whole, length-append o.log (e ∷ []))

  settles-one : (e : ℕ) → winner_of r words ≡ Some e → 1 ≤ (elect_of r words).count
  settles-one e q = omega (arith, elected.counted, count-some (held_by r words) e q)

  settles-first : (e : ℕ) → winner_of r words ≡ Some e → get_or (elect_words r words) (held_length r) 0 ≡ e
  unfolding with_folded_elect settle
  settles-first e q =
      let o = held_by r words in
      let g = elect-log rule (settle e o) in
      let log : (with_elect rule o).log ≡ (o.log ++ (e ∷ [])) ++ g.0 = ap (λ (x : Office). x.log) (elect-some rule voted o e q) ∙ g.1 in
      ap (λ (l : List ℕ). get_or l (held_length r) 0) (elected.written ∙ ap (λ (l : List ℕ). words_with l words) log ∙ apart o.log e g.0) ∙
      get_or_at o.log e (g.0 ++ drop (length ((o.log ++ (e ∷ [])) ++ g.0)) words) 0 (held_length r) (log-length r words S)
    where
      apart : (p : List ℕ) (x : ℕ) (l : List ℕ) → words_with ((p ++ (x ∷ [])) ++ l) words ≡ p ++ x ∷ (l ++ drop (length ((p ++ (x ∷ [])) ++ l)) words)
      apart p x l =
          let end : List ℕ = drop (length ((p ++ (x ∷ [])) ++ l)) words in
          append_assoc (p ++ (x ∷ [])) l end ∙ append_assoc p (x ∷ []) (l ++ end)

  decided : Decides r words answer
  decided = record {
    winner = leads;
    nothing = λ q. settles-none (sym leads ∙ q);
    first = λ e q. (settles-one e (sym leads ∙ q), settles-first e (sym leads ∙ q));
  }

-- ── one vote more ──
module _ (r : Record) (words : List ℕ) (S : Sound r words) (s : Record) (words' : List ℕ) (S' : Sound s words') (k e : ℕ)
    (M : OneVoteMore r words s words' k e) where
  abbrev v : Votes
  v = vote_of r words

  abbrev v' : Votes
  v' = vote_of s words'

  abbrev us : List ℕ
  us = r.summary.present

  rows : rows_in (answer r words S) ≡ rows_by us v
  rows = answer-rows r words S

  rows' : rows_in (answer s words' S') ≡ rows_by us v'
  rows' = answer-rows s words' S' ∙ ap (λ (l : List ℕ). rows_by l v') (sym M.weights)

  office-stays : (j : ℕ) → (j ≡ k → ⊥) → get_or (answer s words' S').silent j 0 ≡ get_or (answer r words S).silent j 0
  office-stays j n = go (dec_lt j r.n)
    where
      go : Dec (j < r.n) → get_or (in_eight (marks s.n v')) j 0 ≡ get_or (in_eight (marks r.n v)) j 0
      go (yes h) =
          let same = M.offices in
          table.marks-at s.n v' j (omega (arith, same)) ∙ ap (λ (a : Option ℕ). cond (is_none a) 1 0) (M.others j n) ∙
          sym (table.marks-at r.n v j h)
      go (no h) = let same = M.offices in table.marks-past s.n v' j (omega (arith, same)) ∙ sym (table.marks-past r.n v j (omega arith))

  added : Adds (answer r words S) (answer s words' S') k e (weight_of us k)
  added =
      let same = M.offices in
      let h = M.member in
      let m = S.head.most in
      record {
        row = ap (weight_in e) rows' ∙ table.row-weight us v' e ∙ rise.tally-rises us v v' k e M.unvoted M.voted M.others ∙
            ap (λ (t : ℕ). t + weight_of us k) (sym (ap (weight_in e) rows ∙ table.row-weight us v e));
        has-row = ap (λ rs. times e (entries_in rs)) rows' ∙ rise.row_made us v v' k e M.unvoted M.voted M.others (omega (arith, long r words S));
        other-rows = λ f n. (
          ap (weight_in f) rows' ∙ table.row-weight us v' f ∙ rise.tally-stays us v v' k e M.unvoted M.voted M.others f n ∙
              sym (ap (weight_in f) rows ∙ table.row-weight us v f),
          ap (λ rs. times f (entries_in rs)) rows' ∙ rise.rows_stay us v v' k e M.unvoted M.voted M.others f n ∙
              sym (ap (λ rs. times f (entries_in rs)) rows),
        );
        missing = ap (λ (l : List ℕ). unheard l v' + weight_of us k) (sym M.weights) ∙
            rise.unheard-falls us v v' k e M.unvoted M.voted M.others;
        silent-office = (
          table.marks-at r.n v k h ∙ ap (λ (a : Option ℕ). cond (is_none a) 1 0) M.unvoted,
          table.marks-at s.n v' k (omega (arith, same)) ∙ ap (λ (a : Option ℕ). cond (is_none a) 1 0) M.voted,
        );
        other-offices = office-stays;
      }

-- ── of the call's answer ──
pub refused-zeros : (r : Record) (words : List ℕ) → ((standing_of r words).number ≡ 0 → ⊥) → standing_of r words ≡ refused
refused-zeros r words q = go (sound_b r words) refl
  where
    go : (b : Bool) → sound_b r words ≡ b → standing_of r words ≡ refused
    go true e = absurd (q (ap (λ (s : Standing). s.number) (standing-sound r words e)))
    go false e = sym (standing-unsound r words e)

pub shows : (r : Record) (words : List ℕ) → (standing_of r words).number ≡ 0 → Shows r words (standing_of r words)
shows r words q = let d = done r words q in subst (Shows r words) (sym d.1) (shown r words d.0)

pub decides : (r : Record) (words : List ℕ) → (standing_of r words).number ≡ 0 → Decides r words (standing_of r words)
decides r words q = let d = done r words q in subst (Decides r words) (sym d.1) (decided r words d.0)

pub one-vote-more : (r s : Record) (words words' : List ℕ) (k e : ℕ) → (standing_of r words).number ≡ 0 → (standing_of s words').number ≡ 0
    → OneVoteMore r words s words' k e → Adds (standing_of r words) (standing_of s words') k e (weight_of r.summary.present k)
one-vote-more r s words words' k e p q M =
    let d = done r words p in
    let d' = done s words' q in
    subst₂ (λ (a b : Standing). Adds a b k e (weight_of r.summary.present k)) (sym d.1) (sym d'.1) (added r words d.0 s words' d'.0 k e M)

-- two records that keep the same of dropped entries and hold the same log have the same present weights
pub same_log : (r s : Record) (words words' : List ℕ) → (standing_of r words).number ≡ 0 → (standing_of s words').number ≡ 0
    → r.kept ≡ s.kept → (held_by r words).log ≡ (held_by s words').log → r.summary.present ≡ s.summary.present
same_log r s words words' p q kept log =
    follows r words (done r words p).0 ∙ (λ i. weights_after (kept i).summary.present (log i)) ∙ sym (follows s words' (done s words' q).0)

-- a ballot that is put where there was none
pub ballot-heard : (r : Record) (words : List ℕ) (k e : ℕ) (b : Ballot) (t : List ℕ) → k < r.n → (get_or r.ballots k off_end).len ≡ 0 → tail_of b ≡ e ∷ t
    → (standing_of r words).number ≡ 0 → (standing_of (with_ballot r k b) words).number ≡ 0
    → Adds (standing_of r words) (standing_of (with_ballot r k b) words) k e (weight_of r.summary.present k)
ballot-heard r words k e b t h none_yet tail p q =
    let S = (done r words p).0 in
    let m = S.head.most in
    let there : k < length r.ballots = omega (arith, S.eight) in
    one-vote-more r (with_ballot r k b) words words k e p q
    (record {
      offices = refl;
      weights = refl;
      member = h;
      unvoted = ap first (tail_at r words k) ∙ rw none_yet;
      voted = ap first (tail_at (with_ballot r k b) words k ∙ ap tail_of (get_or-set_same r.ballots k b off_end there) ∙ tail);
      others = λ j n. ap first (tail_at (with_ballot r k b) words j ∙ ap tail_of (get_or-set_other r.ballots k j b off_end n) ∙ sym (tail_at r words j));
    })
