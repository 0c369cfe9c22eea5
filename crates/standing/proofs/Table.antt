-- The rows say what the election rule sees, by any weights ws and votes v.
--     rows_in                            the rows that eight cells hold
--     rows-once, rows-supported          each supported entry has one row, and no other has any
--     row-weight                         its T is the rule's; an entry with no row has none
--     rows-total                         the rows and U make up the total
--     rows_few                           no more rows than offices that vote
--     marks-at, marks-past, marks-weight the offices with no vote are marked, and U is their weight
--     leader-wins                        the entry that wins by the rows is the one that the rule names
-- Assumes nothing.
use mathlib.Core.Path.{◌≡◌, refl, sym, ap, ap₂, subst, ◌∙◌}
use mathlib.Core.List.{List, [], ◌∷◌, ◌++◌, map}
use Rattle.std.specs.Prelude.{Option, None, Some}
use mathlib.Core.Bool.{Bool, true, false, ◌&&◌, ◌||◌, cond}
use mathlib.Core.Logic.{◌↔◌}
use Prim.Native.Nat.{ℕ, zero, suc, ◌+◌, ◌-◌, ◌≤◌, ◌<◌, min}
use native.Mathlib.Nat.{le_of_suc-le-suc, not-suc-le-zero}
use native.Mathlib.Decide.{dec_lt}
use native.Mathlib.Omega.{arith}
use lib.Dec.{eqb, ltb}
use lib.ListN.{length, get_or, take, replicate, length-map}
use lib.Seq.{take_at}
use borrow.Author.Tests.{eqb-true, eq-eqb}
use Rattle.lists.specs.Tests.{times}
use Rattle.lists.proofs.Tests.{if-cases}
use Rattle.lists.proofs.Padded.{padded-at, padded-past}
use Rattle.protocol.specs.Vote.{Votes, later, is_for, is_none, tally, unheard, and-also, supported, beats, beats_all, wins, first_winner, winner}
use Rattle.protocol.specs.Winning.{Supported}
use Rattle.protocol.specs.Limits.{total}
use Rattle.protocol_laws.proofs.Vote.{tally-voted}
use Rattle.lists.specs.Padded.{in_eight}
use Rattle.bounds.proofs.Eight.{Silent}
use Rattle.rows.specs.Rows.{without, distinct, row_entries, marks}
use Rattle.rows.proofs.Walks.{marks-length, mark-at}
use Rattle.standing.specs.Leader.{Row, paired, entries_in, weights_in, weight_in, joint_weight, ahead, leads, first_leader}

abbrev pub row_of : List ℕ → Votes → ℕ → Row
row_of ws v e = record { entry = e; weight = tally ws v e }

-- the rows by the rule
abbrev pub rows_by : List ℕ → Votes → List Row
rows_by ws v = map (row_of ws v) (row_entries ws v)

-- ── eight cells ──
paired-map : (f : ℕ → ℕ) (ds : List ℕ) → paired ds (map f ds) ≡ map (λ (e : ℕ). record { entry = e; weight = f e }) ds
unfolding paired
paired-map f [] = refl
paired-map f (d ∷ ds) = ap (λ (rs : List Row). record { entry = d; weight = f d } ∷ rs) (paired-map f ds)

pub rows_in : (ws : List ℕ) (v : Votes) (ds : List ℕ) → paired (take (length ds) (in_eight ds)) (take (length ds) (in_eight (map (tally ws v) ds))) ≡ map (row_of ws v) ds
rows_in ws v ds =
    let ts : List ℕ = map (tally ws v) ds in
    ap₂ paired (take_at ds (replicate (8 - length ds) 0) (length ds) refl) (take_at ts (replicate (8 - length ts) 0) (length ds) (length-map ds (tally ws v))) ∙ paired-map (tally ws v) ds

-- ── each once ──
times-self : (x : ℕ) (l : List ℕ) → times x (without x l) ≡ 0
unfolding times without
times-self x [] = refl
times-self x (y ∷ l) = if-cases (λ r. times x r ≡ 0) (eqb x y) (without x l) (y ∷ without x l)
    (λ _. times-self x l) (λ h. rw h (omega (arith, times-self x l)))

times-other : (x e : ℕ) (l : List ℕ) → eqb e x ≡ false → times e (without x l) ≡ times e l
unfolding times without
times-other x e [] n = refl
times-other x e (y ∷ l) n = if-cases (λ r. times e r ≡ cond (eqb e y) 1 0 + times e l) (eqb x y) (without x l) (y ∷ without x l)
    (λ h. subst (λ (z : ℕ). times e (without x l) ≡ cond (eqb e z) 1 0 + times e l) (eqb-true x y h) (rw n (omega (arith, times-other x e l n))))
    (λ _. omega (arith, times-other x e l n))

times-distinct : (e : ℕ) (l : List ℕ) → times e (distinct l) ≡ min 1 (times e l)
unfolding times distinct
times-distinct e [] = refl
times-distinct e (x ∷ l) = if-cases (λ (r : ℕ). r + times e (without x (distinct l)) ≡ min 1 (r + times e l)) (eqb e x) 1 0
    (λ h. omega (arith, subst (λ (z : ℕ). times z (without x (distinct l)) ≡ 0) (sym (eqb-true e x h)) (times-self x (distinct l))))
    (λ h. omega (arith, times-other x e (distinct l) h, times-distinct e l))

-- ── the supported entries ──
times-voted : (ws : List ℕ) (v : Votes) (e : ℕ) → 0 < times e (supported ws v) → Supported ws v e
unfolding times supported
times-voted [] v e h = absurd (omega arith)
times-voted (w ∷ ws) v e h = go (v 0) refl h (times-voted ws (later v) e)
  where
    next : Supported ws (later v) e → Supported (w ∷ ws) v e
    next s = (suc s.0, omega (arith, s.1), s.2)

    go : (a : Option ℕ) → v 0 ≡ a → 0 < times e (and-also a (supported ws (later v))) → (0 < times e (supported ws (later v)) → Supported ws (later v) e) → Supported (w ∷ ws) v e
    go None q h ih = next (ih h)
    go (Some x) q h ih = here (eqb e x) refl h
      where
        here : (t : Bool) → eqb e x ≡ t → 0 < cond t 1 0 + times e (supported ws (later v)) → Supported (w ∷ ws) v e
        here true d h = (0, omega arith, q ∙ ap Some (sym (eqb-true e x d)))
        here false d h = next (ih (omega arith))

voted-times : (ws : List ℕ) (v : Votes) (e k : ℕ) → k < length ws → v k ≡ Some e → 0 < times e (supported ws v)
unfolding times supported
voted-times [] v e k h q = absurd (not-suc-le-zero h)
voted-times (w ∷ ws) v e zero h q = rw (q, eq-eqb e e refl) (omega arith)
voted-times (w ∷ ws) v e (suc k) h q = go (v 0) (voted-times ws (later v) e k (le_of_suc-le-suc h) q)
  where
    go : (a : Option ℕ) → 0 < times e (supported ws (later v)) → 0 < times e (and-also a (supported ws (later v)))
    go None h = h
    go (Some x) h = omega arith

-- ── the rows ──
row-entries : (ws : List ℕ) (v : Votes) (ds : List ℕ) → entries_in (map (row_of ws v) ds) ≡ ds
row-entries ws v [] = refl
row-entries ws v (d ∷ ds) = ap (λ (l : List ℕ). d ∷ l) (row-entries ws v ds)

module _ (ws : List ℕ) (v : Votes) where
  rows-times : (e : ℕ) → times e (entries_in (rows_by ws v)) ≡ min 1 (times e (supported ws v))
  unfolding row_entries
  rows-times e = ap (times e) (row-entries ws v (distinct (supported ws v))) ∙ times-distinct e (supported ws v)

  pub rows-once : (e : ℕ) → times e (entries_in (rows_by ws v)) ≤ 1
  rows-once e = omega (arith, rows-times e)

  pub rows-supported : (e : ℕ) → (times e (entries_in (rows_by ws v)) ≡ 1) ↔ Supported ws v e
  rows-supported e = (
    λ h. times-voted ws v e (omega (arith, rows-times e)),
    λ s. omega (arith, rows-times e, voted-times ws v e s.0 s.1 s.2),
  )

  -- ── T ──
  weight-has : (e : ℕ) (ds : List ℕ) → 0 < times e ds → weight_in e (map (row_of ws v) ds) ≡ tally ws v e
  unfolding times weight_in
  weight-has e [] h = absurd (omega arith)
  weight-has e (d ∷ ds) h = go (eqb e d) refl h (weight-has e ds)
    where
      go : (t : Bool) → eqb e d ≡ t → 0 < cond t 1 0 + times e ds → (0 < times e ds → weight_in e (map (row_of ws v) ds) ≡ tally ws v e)
          → cond t (tally ws v d) (weight_in e (map (row_of ws v) ds)) ≡ tally ws v e
      go true q h ih = ap (tally ws v) (sym (eqb-true e d q))
      go false q h ih = ih (omega arith)

  weight-lacks : (e : ℕ) (ds : List ℕ) → times e ds ≡ 0 → weight_in e (map (row_of ws v) ds) ≡ 0
  unfolding times weight_in
  weight-lacks e [] h = refl
  weight-lacks e (d ∷ ds) h = go (eqb e d) h (weight-lacks e ds)
    where
      go : (t : Bool) → cond t 1 0 + times e ds ≡ 0 → (times e ds ≡ 0 → weight_in e (map (row_of ws v) ds) ≡ 0) → cond t (tally ws v d) (weight_in e (map (row_of ws v) ds)) ≡ 0
      go true h ih = absurd (omega arith)
      go false h ih = ih (omega arith)

  pub row-weight : (e : ℕ) → weight_in e (rows_by ws v) ≡ tally ws v e
  unfolding row_entries
  row-weight e = go (dec_lt 0 (times e ds)) (dec_lt 0 (tally ws v e))
    where
      ds : List ℕ
      ds = distinct (supported ws v)

      go : Dec (0 < times e ds) → Dec (0 < tally ws v e) → weight_in e (map (row_of ws v) ds) ≡ tally ws v e
      go (yes h) t = weight-has e ds h
      go (no h) (yes t) = let s = tally-voted ws v e t in absurd (omega (arith, times-distinct e (supported ws v), voted-times ws v e s.0 s.1 s.2))
      go (no h) (no t) = omega (arith, weight-lacks e ds (omega arith))

-- ── how many ──
without-few : (x : ℕ) (l : List ℕ) → length (without x l) ≤ length l
unfolding without
without-few x [] = omega arith
without-few x (y ∷ l) = if-cases (λ r. length r ≤ suc (length l)) (eqb x y) (without x l) (y ∷ without x l)
    (λ _. omega (arith, without-few x l)) (λ _. omega (arith, without-few x l))

distinct-few : (l : List ℕ) → length (distinct l) ≤ length l
unfolding distinct
distinct-few [] = omega arith
distinct-few (x ∷ l) = omega (arith, without-few x (distinct l), distinct-few l)

supported-few : (n : ℕ) (ws : List ℕ) (v : Votes) → Silent n v → length (supported ws v) ≤ n
unfolding supported
supported-few n [] v s = omega arith
supported-few zero (w ∷ ws) v s = rw (s 0 (omega arith)) (supported-few zero ws (later v) (λ k h. s (suc k) (omega arith)))
supported-few (suc n) (w ∷ ws) v s = go (v 0) (supported-few n ws (later v) (λ k h. s (suc k) (omega arith)))
  where
    go : (a : Option ℕ) → length (supported ws (later v)) ≤ n → length (and-also a (supported ws (later v))) ≤ suc n
    go None h = omega arith
    go (Some x) h = omega arith

pub rows_few : (n : ℕ) (ws : List ℕ) (v : Votes) → Silent n v → length (row_entries ws v) ≤ n
unfolding row_entries
rows_few n ws v s = omega (arith, distinct-few (supported ws v), supported-few n ws v s)

-- ── the total ──
row-weights : (ws : List ℕ) (v : Votes) (ds : List ℕ) → weights_in (map (row_of ws v) ds) ≡ map (tally ws v) ds
row-weights ws v [] = refl
row-weights ws v (d ∷ ds) = ap (λ (l : List ℕ). tally ws v d ∷ l) (row-weights ws v ds)

-- one office's part of the rows
hits : ℕ → Option ℕ → List ℕ → ℕ
hits w a ds = total (map (λ (e : ℕ). cond (is_for e a) w 0) ds)

sum-none : (v : Votes) (ds : List ℕ) → total (map (tally [] v) ds) ≡ 0
unfolding total tally
sum-none v [] = refl
sum-none v (d ∷ ds) = omega (arith, sum-none v ds)

sum-split : (w : ℕ) (ws : List ℕ) (v : Votes) (ds : List ℕ) → total (map (tally (w ∷ ws) v) ds) ≡ hits w (v 0) ds + total (map (tally ws (later v)) ds)
unfolding total tally hits
sum-split w ws v [] = refl
sum-split w ws v (d ∷ ds) = omega (arith, sum-split w ws v ds)

hits-none : (w : ℕ) (ds : List ℕ) → hits w None ds ≡ 0
unfolding total hits
hits-none w [] = refl
hits-none w (d ∷ ds) = omega (arith, hits-none w ds)

hits-lacks : (w x : ℕ) (ds : List ℕ) → times x ds ≡ 0 → hits w (Some x) ds ≡ 0
unfolding total hits times
hits-lacks w x [] h = refl
hits-lacks w x (d ∷ ds) h = go (eqb x d) h (hits-lacks w x ds)
  where
    go : (t : Bool) → cond t 1 0 + times x ds ≡ 0 → (times x ds ≡ 0 → hits w (Some x) ds ≡ 0) → cond t w 0 + hits w (Some x) ds ≡ 0
    go true h ih = absurd (omega arith)
    go false h ih = omega (arith, ih (omega arith))

hits-once : (w x : ℕ) (ds : List ℕ) → times x ds ≡ 1 → hits w (Some x) ds ≡ w
unfolding total hits times
hits-once w x [] h = absurd (omega arith)
hits-once w x (d ∷ ds) h = go (eqb x d) h (hits-once w x ds)
  where
    go : (t : Bool) → cond t 1 0 + times x ds ≡ 1 → (times x ds ≡ 1 → hits w (Some x) ds ≡ w) → cond t w 0 + hits w (Some x) ds ≡ w
    go true h ih = omega (arith, hits-lacks w x ds (omega arith))
    go false h ih = omega (arith, ih (omega arith))

-- where each vote has one row, each office's weight is in one row, or in U
sum-whole : (ws : List ℕ) (v : Votes) (ds : List ℕ) → ((k x : ℕ) → k < length ws → v k ≡ Some x → times x ds ≡ 1) → total (map (tally ws v) ds) + unheard ws v ≡ total ws
unfolding unheard total
sum-whole [] v ds h = omega (arith, sum-none v ds)
sum-whole (w ∷ ws) v ds h = omega (arith, sum-split w ws v ds, one (v 0) refl, sum-whole ws (later v) ds (λ k x b q. h (suc k) x (omega arith) q))
  where
    one : (a : Option ℕ) → v 0 ≡ a → hits w a ds + cond (is_none a) w 0 ≡ w
    one None q = omega (arith, hits-none w ds)
    one (Some x) q = omega (arith, hits-once w x ds (h 0 x (omega arith) q))

pub rows-total : (ws : List ℕ) (v : Votes) → total (weights_in (rows_by ws v)) + unheard ws v ≡ total ws
unfolding row_entries
rows-total ws v =
    let ds : List ℕ = distinct (supported ws v) in
    ap (λ (l : List ℕ). total l + unheard ws v) (row-weights ws v ds)
    ∙ sum-whole ws v ds (λ k x b q. omega (arith, times-distinct x (supported ws v), voted-times ws v x k b q))

-- ── whose votes are missing ──
-- an office is marked where it has no vote
pub marks-at : (n : ℕ) (v : Votes) (k : ℕ) → k < n → get_or (in_eight (marks n v)) k 0 ≡ cond (is_none (v k)) 1 0
marks-at n v k h = padded-at 8 0 (marks n v) k (omega (arith, marks-length n v)) ∙ mark-at n v k h

pub marks-past : (n : ℕ) (v : Votes) (k : ℕ) → n ≤ k → get_or (in_eight (marks n v)) k 0 ≡ 0
marks-past n v k h = padded-past 8 0 (marks n v) k (omega (arith, marks-length n v))

joint-zero : (ws : List ℕ) (m : ℕ) → joint_weight ws (replicate m 0) ≡ 0
unfolding joint_weight
joint-zero [] m = refl
joint-zero (w ∷ ws) zero = refl
joint-zero (w ∷ ws) (suc m) = omega (arith, joint-zero ws m)

unheard-zero : (ws : List ℕ) (v : Votes) → ((k : ℕ) → get_or ws k 0 ≡ 0) → unheard ws v ≡ 0
unfolding unheard
unheard-zero [] v h = refl
unheard-zero (w ∷ ws) v h = if-cases (λ (r : ℕ). r + unheard ws (later v) ≡ 0) (is_none (v 0)) w 0
    (λ _. omega (arith, h 0, unheard-zero ws (later v) (λ k. h (suc k)))) (λ _. omega (arith, unheard-zero ws (later v) (λ k. h (suc k))))

-- U is their weight, where the weights are "zero from place n on"
joint-marks : (m n : ℕ) (ws : List ℕ) (v : Votes) → ((k : ℕ) → n ≤ k → get_or ws k 0 ≡ 0) → joint_weight ws (marks n v ++ replicate m 0) ≡ unheard ws v
unfolding joint_weight marks unheard
joint-marks m zero ws v h = joint-zero ws m ∙ sym (unheard-zero ws v (λ k. h k (omega arith)))
joint-marks m (suc n) [] v h = refl
joint-marks m (suc n) (w ∷ ws) v h = ap₂ (λ (x y : ℕ). x + y) (one (is_none (v 0))) (joint-marks m n ws (later v) (λ k b. h (suc k) (omega arith)))
  where
    one : (t : Bool) → cond (eqb (cond t 1 0) 1) w 0 ≡ cond t w 0
    one true = refl
    one false = refl

pub marks-weight : (n : ℕ) (ws : List ℕ) (v : Votes) → ((k : ℕ) → n ≤ k → get_or ws k 0 ≡ 0) → joint_weight ws (in_eight (marks n v)) ≡ unheard ws v
marks-weight n ws v h = joint-marks (8 - length (marks n v)) n ws v h

-- ── the rows decide ──
module _ (ws : List ℕ) (before : ℕ → ℕ → Bool) (v : Votes) where
  ahead-beats : (e : ℕ) (fs : List ℕ) → ahead before (unheard ws v) (row_of ws v e) (map (row_of ws v) fs) ≡ beats_all ws before v e fs
  ahead-beats e [] = refl
  ahead-beats e (f ∷ fs) = ap (λ (t : Bool). (eqb f e || beats ws before v e f) && t) (ahead-beats e fs)

  -- what is beaten once is beaten
  beats-without : (e x : ℕ) (l : List ℕ) → (eqb x e || beats ws before v e x) ≡ true → beats_all ws before v e (without x l) ≡ beats_all ws before v e l
  unfolding without
  beats-without e x [] h = refl
  beats-without e x (y ∷ l) h = if-cases (λ r. beats_all ws before v e r ≡ ((eqb y e || beats ws before v e y) && beats_all ws before v e l)) (eqb x y) (without x l) (y ∷ without x l)
      (λ q. subst (λ (z : ℕ). beats_all ws before v e (without x l) ≡ ((eqb z e || beats ws before v e z) && beats_all ws before v e l)) (eqb-true x y q) (rw h (beats-without e x l h)))
      (λ _. ap (λ (t : Bool). (eqb y e || beats ws before v e y) && t) (beats-without e x l h))

  beats-distinct : (e : ℕ) (l : List ℕ) → beats_all ws before v e (distinct l) ≡ beats_all ws before v e l
  unfolding distinct
  beats-distinct e [] = refl
  beats-distinct e (x ∷ l) = go (eqb x e || beats ws before v e x) refl (beats-distinct e l)
    where
      go : (t : Bool) → (eqb x e || beats ws before v e x) ≡ t → beats_all ws before v e (distinct l) ≡ beats_all ws before v e l
          → (t && beats_all ws before v e (without x (distinct l))) ≡ (t && beats_all ws before v e l)
      go true q ih = beats-without e x (distinct l) q ∙ ih
      go false q ih = refl

  -- what does not win does not win again
  first-without : (x : ℕ) (l : List ℕ) → wins ws before v x ≡ false → first_winner ws before v (without x l) ≡ first_winner ws before v l
  unfolding without
  first-without x [] h = refl
  first-without x (y ∷ l) h = if-cases (λ r. first_winner ws before v r ≡ cond (wins ws before v y) (Some y) (first_winner ws before v l)) (eqb x y) (without x l) (y ∷ without x l)
      (λ q. subst (λ (z : ℕ). first_winner ws before v (without x l) ≡ cond (wins ws before v z) (Some z) (first_winner ws before v l)) (eqb-true x y q) (rw h (first-without x l h)))
      (λ _. ap (λ (r : Option ℕ). cond (wins ws before v y) (Some y) r) (first-without x l h))

  first-distinct : (l : List ℕ) → first_winner ws before v (distinct l) ≡ first_winner ws before v l
  unfolding distinct
  first-distinct [] = refl
  first-distinct (x ∷ l) = go (wins ws before v x) refl (first-distinct l)
    where
      go : (t : Bool) → wins ws before v x ≡ t → first_winner ws before v (distinct l) ≡ first_winner ws before v l
          → cond t (Some x) (first_winner ws before v (without x (distinct l))) ≡ cond t (Some x) (first_winner ws before v l)
      go true q ih = refl
      go false q ih = first-without x (distinct l) q ∙ ih

  leads-wins : (e : ℕ) → leads before (unheard ws v) (rows_by ws v) (row_of ws v e) ≡ wins ws before v e
  unfolding row_entries wins
  leads-wins e = ap (λ (t : Bool). ltb (unheard ws v) (tally ws v e) && t) (ahead-beats e (distinct (supported ws v)) ∙ beats-distinct e (supported ws v))

  first-leads : (l : List ℕ) → first_leader before (unheard ws v) (rows_by ws v) (map (row_of ws v) l) ≡ first_winner ws before v l
  first-leads [] = refl
  first-leads (x ∷ l) = ap₂ (λ (t : Bool) (r : Option ℕ). cond t (Some x) r) (leads-wins x) (first-leads l)

  pub leader-wins : first_leader before (unheard ws v) (rows_by ws v) (rows_by ws v) ≡ winner ws before v
  unfolding row_entries winner
  leader-wins = first-leads (distinct (supported ws v)) ∙ first-distinct (supported ws v)
