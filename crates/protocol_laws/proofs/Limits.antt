-- The limits of an office's state, as facts by name, and that every call keeps them.
--     Fine, fine, fine_of       the facts behind the test `office_fine`, and both ways between them
--     head, head-true           the same of `Head`, the numbers that founding is given
--     fresh-fine, settle-fine, elect-fine, catch_up-fine, take-fine      each call keeps them; issue has a file of its own (Issue)
--     take_done                 what a take that is done found
-- Assumes nothing.
use mathlib.Core.Path.{◌≡◌, refl, sym, ap, subst, ◌∙◌}
use mathlib.Core.Bool.{Bool, true, false, ◌||◌, cond, true≢false}
use mathlib.Core.List.{List, [], ◌∷◌, ◌++◌, append-nil}
use Rattle.std.specs.Prelude.{Some}
use Rattle.std.proofs.lemmas.Option.{none-some, same_Some}
use mathlib.Core.Logic.{◌⊎◌, inl, inr}
use Prim.Native.Nat.{ℕ, zero, suc, ◌+◌, ◌-◌, ◌<◌, ◌≤◌}
use native.Mathlib.Omega.{arith}
use lib.Dec.{eqb}
use lib.ListN.{length, drop, replicate, length-append, length-map, length-drop}
use lib.Seq.{drop-set-lt}
use borrow.Author.Tests.{eqb-true, eqb-false, leb-true, ltb-true, eq-eqb, le-leb, lt-ltb}
use Rattle.lists.specs.Tests.{all_b}
use Rattle.protocol.specs.Entry.{is_entry}
use Rattle.protocol.specs.Fair.{fair}
use Rattle.protocol.specs.Beginning.{◌⊑◌, ◌⊏◌, begins, extends}
use Rattle.protocol.specs.Vote.{Rule}
use Rattle.protocol.specs.Office.{Office, Message, fresh, tail, first, votes}
use Rattle.protocol.specs.Limits.{is_office, total, weights_fine, head_fine, Head, is_empty, log_fine, tail_fine, tails_fine, office_fine}
use Rattle.protocol.specs.Take.{rebased, rebase, catch_up, adopt, adopts, adopting, offers, with_take, refuse_take}
use Rattle.protocol.specs.Elect.{lose, settle, electing, with_elect}
use Rattle.lists.proofs.Tests.{both-0, both-1, both_true, all_get_d, all_one, all_append, all_map, all_set, all_drop, all_replicate, drop-map, if-cases}
use Rattle.protocol_laws.proofs.Beginning.{⊑_refl, ⊑-cases, ⊏-⊑, ⊑-⊏-trans, ⊑-length, ⊏-length, ⊏-irrefl, ⊑-append, ⊑_trans, begins-true, extends-true, extends-false}
use Rattle.protocol_laws.proofs.Vote.{NamesVoted}
use Rattle.protocol_laws.proofs.Office.{rebased-nil, next-cases}
use Rattle.protocol_laws.proofs.Fair.{fair-nil, fair-drop, fair-behind}

-- ── the facts by name ──
pub record FineTail (n settled : ℕ) (t : List ℕ) : Type 0 where
  pub short : length t ≤ 32
  pub room : settled + length t ≤ 1024
  pub entries : all_b (is_entry n) t ≡ true
  pub parts : fair n t ≡ true

pub fine-tail : (n settled : ℕ) (t : List ℕ) → tail_fine n settled t ≡ true → FineTail n settled t
unfolding tail_fine
fine-tail n settled t e = record {
  short = leb-true (length t) 32 (both-0 _ _ e);
  room = leb-true (settled + length t) 1024 (both-0 _ _ (both-1 _ _ e));
  entries = both-0 _ _ (both-1 _ _ (both-1 _ _ e));
  parts = both-1 _ _ (both-1 _ _ (both-1 _ _ e));
}

pub fine-tail-of : (n settled : ℕ) (t : List ℕ) → FineTail n settled t → tail_fine n settled t ≡ true
unfolding tail_fine
fine-tail-of n settled t f = both_true _ _ (le-leb (length t) 32 f.short) (both_true _ _ (le-leb (settled + length t) 1024 f.room) (both_true _ _ f.entries f.parts))

pub record Fine (n : ℕ) (o : Office) : Type 0 where
  pub eight : length o.tails ≡ 8
  pub most : length o.log ≤ 1024
  pub entries : all_b (is_entry n) o.log ≡ true
  pub tails : all_b (tail_fine n (length o.log)) o.tails ≡ true
  pub rest : all_b is_empty (drop n o.tails) ≡ true

pub fine : (n : ℕ) (o : Office) → office_fine n o ≡ true → Fine n o
unfolding office_fine log_fine tails_fine
fine n o e =
    let log = both-0 _ _ e in
    let tails = both-1 _ _ e in
    record {
      eight = eqb-true (length o.tails) 8 (both-0 _ _ tails);
      most = leb-true (length o.log) 1024 (both-0 _ _ log);
      entries = both-1 _ _ log;
      tails = both-0 _ _ (both-1 _ _ tails);
      rest = both-1 _ _ (both-1 _ _ tails);
    }

pub fine_of : (n : ℕ) (o : Office) → Fine n o → office_fine n o ≡ true
unfolding office_fine log_fine tails_fine
fine_of n o f =
    both_true _ _ (both_true _ _ (le-leb (length o.log) 1024 f.most) f.entries)
    (both_true _ _ (eq-eqb (length o.tails) 8 f.eight) (both_true _ _ f.tails f.rest))

nil-fine : (n settled : ℕ) → settled ≤ 1024 → FineTail n settled []
unfolding all_b
nil-fine n settled h = record { short = omega arith; room = omega arith; entries = refl; parts = fair-nil n }

-- every tail, and past the eight of them the empty one
pub tail_at : (n : ℕ) (o : Office) → Fine n o → (k : ℕ) → FineTail n (length o.log) (tail o k)
tail_at n o f k = fine-tail n (length o.log) (tail o k)
    (all_get_d (tail_fine n (length o.log)) [] o.tails k f.tails (fine-tail-of n (length o.log) [] (nil-fine n (length o.log) f.most)))

pub empty-nil : (t : List ℕ) → is_empty t ≡ true → t ≡ []
unfolding is_empty
empty-nil [] e = refl
empty-nil (x ∷ t) e = absurd (true≢false (sym e))

-- ── the numbers that founding is given ──
pub head : (n own : ℕ) (ws : List ℕ) → head_fine n own ws ≡ true → Head n own ws
unfolding head_fine is_office weights_fine
head n own ws e =
    let o = both-0 _ _ e in
    let w = both-1 _ _ e in
    let w1 = both-1 _ _ w in
    record {
      eight = eqb-true _ _ (both-0 _ _ w);
      weights = both-0 _ _ w1;
      some = leb-true _ _ (both-0 _ _ o);
      most = leb-true _ _ (both-0 _ _ (both-1 _ _ o));
      member = ltb-true _ _ (both-1 _ _ (both-1 _ _ o));
      rest = both-0 _ _ (both-1 _ _ w1);
      total-some = leb-true _ _ (both-1 _ _ (both-1 _ _ w1));
    }

pub head-true : (n own : ℕ) (ws : List ℕ) → Head n own ws → head_fine n own ws ≡ true
unfolding head_fine is_office weights_fine
head-true n own ws H =
    both_true _ _ (both_true _ _ (le-leb 1 n H.some) (both_true _ _ (le-leb n 8 H.most) (lt-ltb own n H.member)))
    (both_true _ _ (eq-eqb (length ws) 8 H.eight) (both_true _ _ H.weights (both_true _ _ H.rest (le-leb 1 (total ws) H.total-some))))

-- ── a fresh office ──
pub fresh-fine : (n : ℕ) → Fine n fresh
unfolding all_b is_empty
fresh-fine n = record {
  eight = refl;
  most = omega arith;
  entries = refl;
  tails = all_replicate (tail_fine n 0) 8 [] (fine-tail-of n 0 [] (nil-fine n 0 (omega arith)));
  rest = all_drop is_empty n (replicate 8 []) (all_replicate is_empty 8 [] refl);
}

-- ── elect ──
-- e, and so many entries after it, had room behind the log before e was settled
lose-fine : (n settled e : ℕ) (t : List ℕ) → settled < 1024 → FineTail n settled t → FineTail n (settled + 1) (lose e t)
unfolding all_b
lose-fine n settled e [] h f = nil-fine n (settled + 1) (omega arith)
lose-fine n settled e (x ∷ t) h f =
    if-cases (λ r. FineTail n (settled + 1) r) (eqb x e) t []
    (λ _. record { short = omega (arith, f.short); room = omega (arith, f.room); entries = both-1 (is_entry n x) (all_b (is_entry n) t) f.entries; parts = fair-drop n 1 (x ∷ t) f.parts })
    (λ _. nil-fine n (settled + 1) (omega arith))

lose-empty : (e : ℕ) (t : List ℕ) → is_empty t ≡ true → is_empty (lose e t) ≡ true
unfolding is_empty
lose-empty e [] h = refl
lose-empty e (x ∷ t) h = absurd (true≢false (sym h))

first-cons : (t : List ℕ) (e : ℕ) → first t ≡ Some e → (r : List ℕ) × (t ≡ e ∷ r)
first-cons [] e h = absurd (none-some e h)
first-cons (x ∷ t) e h = (t, ap (λ (y : ℕ). y ∷ t) (same_Some x e h))

-- an entry that stands first on a ballot
pub first_entry : (n : ℕ) (o : Office) → Fine n o → (k e : ℕ) → votes o k ≡ Some e → (is_entry n e ≡ true) × (length o.log < 1024)
unfolding all_b
first_entry n o f k e h =
    let r = first-cons (tail o k) e h in
    let t : FineTail n (length o.log) (e ∷ r.0) = subst (λ (z : List ℕ). FineTail n (length o.log) z) r.1 (tail_at n o f k) in
    (both-0 (is_entry n e) (all_b (is_entry n) r.0) t.entries, omega (arith, t.room))

pub settle-fine : (n e : ℕ) (o : Office) → Fine n o → (k : ℕ) → votes o k ≡ Some e → Fine n (settle e o)
unfolding settle
settle-fine n e o f k h =
    let settled : ℕ = length o.log in
    let p = first_entry n o f k e h in
    let more : length (o.log ++ (e ∷ [])) ≡ settled + 1 = length-append o.log (e ∷ []) in
    record {
      eight = length-map o.tails (lose e) ∙ f.eight;
      most = omega (arith, more, p.1);
      entries = all_append (is_entry n) o.log (e ∷ []) f.entries (all_one (is_entry n) e p.0);
      tails = rw more (all_map (tail_fine n settled) (tail_fine n (settled + 1)) (lose e)
          (λ t x. fine-tail-of n (settled + 1) (lose e t) (lose-fine n settled e t p.1 (fine-tail n settled t x))) o.tails f.tails);
      rest = rw (drop-map (lose e) n o.tails) (all_map is_empty is_empty (lose e) (lose-empty e) (drop n o.tails) f.rest);
    }

pub electing-fine : (rule : Rule) → NamesVoted rule → (n fuel : ℕ) (o : Office) → Fine n o → Fine n (electing rule fuel o)
unfolding electing
electing-fine rule law n zero o f = f
electing-fine rule law n (suc fuel) o f =
    next-cases (λ r. Fine n r) (rule o.log (votes o)) o (λ e. electing rule fuel (settle e o)) f
    (λ e q. let k = law o.log (votes o) e q in electing-fine rule law n fuel (settle e o) (settle-fine n e o f k.0 k.1))

pub elect-fine : (rule : Rule) → NamesVoted rule → (n : ℕ) (o : Office) → Fine n o → Fine n (with_elect rule o)
unfolding with_elect
elect-fine rule law n o f = electing-fine rule law n _ o f

-- ── take ──
-- what is left of a path m ++ t behind a log l between m and it
behind-fine : (n : ℕ) (l m t : List ℕ) → m ⊑ l → l ⊏ (m ++ t) → all_b (is_entry n) m ≡ true → FineTail n (length m) t → FineTail n (length l) (drop (length l) (m ++ t))
behind-fine n l m t h x p f =
    let q : List ℕ = m ++ t in
    let d : length (drop (length l) q) ≡ length q - length l = length-drop (length l) q in
    let b : length l < length q = ⊏-length l q x in
    let s : length q ≡ length m + length t = length-append m t in
    let c : length m ≤ length l = ⊑-length m l h in
    record {
      short = omega (arith, f.short);
      room = omega (arith, f.room);
      entries = all_drop (is_entry n) (length l) q (all_append (is_entry n) m t p f.entries);
      parts = fair-behind n l m t c f.parts;
    }

rebased-fine : (n : ℕ) (old new t : List ℕ) → old ⊑ new → length new ≤ 1024 → all_b (is_entry n) old ≡ true → FineTail n (length old) t → FineTail n (length new) (rebased old new t)
rebased-fine n old new t h most p f =
    if-cases (λ r. FineTail n (length new) r) (extends (old ++ t) new) (drop (length new) (old ++ t)) []
    (λ e. behind-fine n new old t h (extends-true (old ++ t) new e) p f)
    (λ _. nil-fine n (length new) most)

pub rebase-fine : (n : ℕ) (new : List ℕ) (o : Office) → Fine n o → o.log ⊑ new → length new ≤ 1024 → all_b (is_entry n) new ≡ true → Fine n (rebase new o)
unfolding rebase is_empty
rebase-fine n new o f h most p =
    let old : List ℕ = o.log in
    record {
      eight = length-map o.tails (rebased old new) ∙ f.eight;
      most = most;
      entries = p;
      tails = all_map (tail_fine n (length old)) (tail_fine n (length new)) (rebased old new)
          (λ t x. fine-tail-of n (length new) (rebased old new t) (rebased-fine n old new t h most f.entries (fine-tail n (length old) t x))) o.tails f.tails;
      rest = rw (drop-map (rebased old new) n o.tails) (all_map is_empty is_empty (rebased old new) stays (drop n o.tails) f.rest);
    }
  where
    stays : (t : List ℕ) → is_empty t ≡ true → is_empty (rebased o.log new t) ≡ true
    stays t e = ap (λ (z : List ℕ). is_empty (rebased o.log new z)) (empty-nil t e) ∙ ap is_empty (rebased-nil o.log new h)

pub catch_up-fine : (n : ℕ) (new : List ℕ) (o : Office) → Fine n o → length new ≤ 1024 → all_b (is_entry n) new ≡ true → Fine n (catch_up new o)
unfolding catch_up
catch_up-fine n new o f most p =
    if-cases (λ r. Fine n r) (extends new o.log) (rebase new o) o
    (λ e. rebase-fine n new o f (⊏-⊑ o.log new (extends-true new o.log e)) most p)
    (λ _. f)

-- take only lets the settled log grow
pub take-grows : (k : ℕ) (m : Message) (o : Office) → o.log ⊑ (with_take k m o).log
unfolding with_take catch_up rebase
take-grows k m o =
    if-cases (λ (r : Office). o.log ⊑ r.log) (extends m.state.log o.log) (rebase m.state.log o) o
    (λ e. ⊏-⊑ o.log m.state.log (extends-true m.state.log o.log e)) (λ _. ⊑_refl o.log)

-- the log that is caught up with has the message's as a beginning, where they are comparable
pub catch_up-log : (new : List ℕ) (o : Office) → (o.log ⊑ new) ⊎ (new ⊑ o.log) → new ⊑ (catch_up new o).log
unfolding catch_up rebase
catch_up-log new o c =
    if-cases (λ r. new ⊑ r.log) (extends new o.log) (rebase new o) o (λ _. ⊑_refl new) (λ e. go c e)
  where
    go : (o.log ⊑ new) ⊎ (new ⊑ o.log) → extends new o.log ≡ false → new ⊑ o.log
    go (inr h) e = h
    go (inl h) e = same (⊑-cases o.log new h)
      where
        same : (o.log ≡ new) ⊎ (o.log ⊏ new) → new ⊑ o.log
        same (inl d) = subst (λ (z : List ℕ). z ⊑ o.log) d (⊑_refl o.log)
        same (inr d) = absurd (extends-false new o.log e d)

-- a path longer than the receiver's log is at most the offered tail longer
adopt-fine : (n : ℕ) (l t m q : List ℕ) → m ⊑ l → all_b (is_entry n) m ≡ true → FineTail n (length m) q → FineTail n (length l) t → FineTail n (length l) (adopt l t (m ++ q))
adopt-fine n l t m q h p f g =
    if-cases (λ r. FineTail n (length l) r) (extends (m ++ q) (l ++ t)) (drop (length l) (m ++ q)) t
    (λ e. behind-fine n l m q h (⊑-⊏-trans l (l ++ t) (m ++ q) (⊑-append l t) (extends-true (m ++ q) (l ++ t) e)) p f)
    (λ _. g)

adopts-fine : (n : ℕ) (l : List ℕ) (ts : List (List ℕ)) (m : List ℕ) (qs : List (List ℕ)) → m ⊑ l → all_b (is_entry n) m ≡ true → all_b (tail_fine n (length m)) qs ≡ true
    → all_b (tail_fine n (length l)) ts ≡ true → all_b (tail_fine n (length l)) (adopts l ts m qs) ≡ true
unfolding all_b
adopts-fine n l [] m qs h p f g = refl
adopts-fine n l (t ∷ ts) m [] h p f g = g
adopts-fine n l (t ∷ ts) m (q ∷ qs) h p f g =
    both_true _ _ (fine-tail-of n (length l) (adopt l t (m ++ q)) (adopt-fine n l t m q h p (fine-tail n (length m) q (both-0 _ _ f)) (fine-tail n (length l) t (both-0 _ _ g))))
    (adopts-fine n l ts m qs h p (both-1 _ _ f) (both-1 _ _ g))

-- an empty tail offers nothing to an office whose log is as long
adopt-empty : (l t m q : List ℕ) → m ⊑ l → is_empty q ≡ true → is_empty t ≡ true → is_empty (adopt l t (m ++ q)) ≡ true
adopt-empty l t m q h e d =
    if-cases (λ r. is_empty r ≡ true) (extends (m ++ q) (l ++ t)) (drop (length l) (m ++ q)) t
    (λ x. absurd (none (rw (empty-nil q e, append-nil) at (extends-true (m ++ q) (l ++ t) x))))
    (λ _. d)
  where
    none : (l ++ t) ⊏ m → ⊥
    none x = ⊏-irrefl m (⊑-⊏-trans m (l ++ t) m (⊑_trans m l (l ++ t) h (⊑-append l t)) x)

adopts-empty : (n : ℕ) (l : List ℕ) (ts : List (List ℕ)) (m : List ℕ) (qs : List (List ℕ)) → m ⊑ l → all_b is_empty (drop n qs) ≡ true → all_b is_empty (drop n ts) ≡ true
    → all_b is_empty (drop n (adopts l ts m qs)) ≡ true
unfolding all_b
adopts-empty n l [] m qs h e d = d
adopts-empty n l (t ∷ ts) m [] h e d = d
adopts-empty zero l (t ∷ ts) m (q ∷ qs) h e d =
    both_true _ _ (adopt-empty l t m q h (both-0 _ _ e) (both-0 _ _ d)) (adopts-empty zero l ts m qs h (both-1 _ _ e) (both-1 _ _ d))
adopts-empty (suc n) l (t ∷ ts) m (q ∷ qs) h e d = adopts-empty n l ts m qs h e d

pub adopts-length : (l : List ℕ) (ts : List (List ℕ)) (m : List ℕ) (qs : List (List ℕ)) → length (adopts l ts m qs) ≡ length ts
adopts-length l [] m qs = refl
adopts-length l (t ∷ ts) m [] = refl
adopts-length l (t ∷ ts) m (q ∷ qs) = ap suc (adopts-length l ts m qs)

pub adopting-fine : (n : ℕ) (m : List ℕ) (qs : List (List ℕ)) (o : Office) → Fine n o → m ⊑ o.log → all_b (is_entry n) m ≡ true → all_b (tail_fine n (length m)) qs ≡ true
    → all_b is_empty (drop n qs) ≡ true → Fine n (adopting m qs o)
adopting-fine n m qs o f h p fs rest = record {
  eight = adopts-length o.log o.tails m qs ∙ f.eight;
  most = f.most;
  entries = f.entries;
  tails = adopts-fine n o.log o.tails m qs h p fs f.tails;
  rest = adopts-empty n o.log o.tails m qs h rest f.rest;
}

pub take-fine : (n k : ℕ) (m : Message) (o : Office) → Fine n o → Fine n m.state → k < n → (o.log ⊑ m.state.log) ⊎ (m.state.log ⊑ o.log) → Fine n (with_take k m o)
unfolding with_take
take-fine n k m o f g h c =
    let s : Office = m.state in
    let new : List ℕ = s.log in
    let t : List ℕ = tail s m.sender in
    adopting-fine n new (offers k m) (catch_up new o) (catch_up-fine n new o f g.most g.entries) (catch_up-log new o c) g.entries
    (all_set (tail_fine n (length new)) s.tails k t g.tails (fine-tail-of n (length new) t (tail_at n s g m.sender)))
    (rw (drop-set-lt n s.tails k t h) g.rest)

-- what a done take found
pub record TakeDone (k : ℕ) (m : Message) (o : Office) : Type 0 where
  pub other : m.sender ≡ k → ⊥
  pub comparable : (o.log ⊑ m.state.log) ⊎ (m.state.log ⊑ o.log)

pub take_done : (k : ℕ) (m : Message) (o : Office) → refuse_take k m o ≡ 0 → TakeDone k m o
unfolding refuse_take
take_done k m o h = go (eqb m.sender k) refl (begins o.log m.state.log) refl (begins m.state.log o.log) refl h
  where
    go : (a : Bool) → eqb m.sender k ≡ a → (b : Bool) → begins o.log m.state.log ≡ b → (c : Bool) → begins m.state.log o.log ≡ c
        → ◌≡◌ {A = ℕ} (cond a 9 (cond (b || c) 0 10)) 0 → TakeDone k m o
    go true p b q c r x = absurd (omega arith)
    go false p true q c r x = record { other = eqb-false m.sender k p; comparable = inl (begins-true o.log m.state.log q) }
    go false p false q true r x = record { other = eqb-false m.sender k p; comparable = inr (begins-true m.state.log o.log r) }
    go false p false q false r x = absurd (omega arith)

pub take-done-fine : (n k : ℕ) (m : Message) (o : Office) → Fine n o → Fine n m.state → k < n → refuse_take k m o ≡ 0 → Fine n (with_take k m o)
take-done-fine n k m o f g h r = take-fine n k m o f g h (take_done k m o r).comparable
