-- The limits that a folded office keeps, as facts by name, and that every call keeps them: what is held keeps document 01's, "dropped entries
-- included, length plus tail is at most 2^63", and "no noted length passes the record's own".
--     folded-facts, folded-of                                                 the facts behind the test `folded_fine`, both ways
--     FoldedFine, PacketFine                                                  the facts, of an office and of its message
--     fold-fine, folded-issue-fine, folded-elect-fine, folded-take-fine       each call keeps them
-- Assumes nothing.
use mathlib.Core.Path.{◌≡◌, refl, sym, ap, subst, ◌∙◌}
use mathlib.Core.Bool.{Bool, true}
use mathlib.Core.List.{List, [], ◌∷◌, ◌++◌}
use Rattle.std.specs.Prelude.{Some}
use Rattle.std.proofs.lemmas.Option.{none-some}
use mathlib.Core.Logic.{◌⊎◌, inl, inr}
use Prim.Native.Nat.{ℕ, zero, suc, ◌+◌, ◌-◌, ◌≤◌, ◌<◌, max}
use native.Mathlib.Omega.{arith}
use lib.Dec.{leb}
use lib.ListN.{length, get_or, set, drop, length-append, length-drop, length-set}
use borrow.Author.Tests.{leb-true, le-leb}
use Rattle.protocol.specs.Entry.{value, is_entry}
use Rattle.protocol.specs.Beginning.{extends}
use Rattle.protocol.specs.Vote.{Rule}
use Rattle.protocol.specs.Office.{Office, Message, tail, path, first, votes}
use Rattle.protocol.specs.Limits.{tail_fine, length_limit, lengths_fine, folded_fine}
use Rattle.protocol.specs.Issue.{with_issue}
use Rattle.protocol.specs.Take.{rebase, catch_up, adopting, offers, with_take}
use Rattle.protocol.specs.Elect.{settle, electing, tail_entries, with_elect}
use Rattle.protocol.specs.Folding.{
  FoldedOffice,
  Packet,
  unfolded,
  settled_length,
  shorn,
  fold_count,
  with_fold,
  with_folded_issue,
  refuse_folded_issue,
  with_folded_elect,
  caught_up,
  from_there,
  with_folded_take,
  refuse_folded_take,
}
use Rattle.lists.proofs.Tests.{both-0, both-1, both_true, if-cases, all_get_d, all_of, all_drop, all-mono, get_d_replicate}
use Rattle.protocol_laws.proofs.Beginning.{⊏-⊑, ⊑-length, extends-true}
use Rattle.protocol_laws.proofs.Vote.{NamesVoted}
use Rattle.protocol_laws.proofs.Office.{PathUnder, Offered, fresh-path, set_cases, rebase-path, adopting-path, settle-path, issue-path, next-cases, take-moves, elect-moves}
use Rattle.protocol_laws.proofs.Limits.{fine-tail, fine-tail-of, Fine, fine, fine_of, fresh-fine, elect-fine, catch_up-log, take_done, take-done-fine}
use Rattle.protocol_laws.proofs.Issue.{issue-done, issue-done-fine}
use Rattle.protocol_laws.proofs.Folding.{fold-held, take_found}

path-length : (o : Office) (j : ℕ) → length (path o j) ≡ length o.log + length (tail o j)
path-length o j = length-append o.log (tail o j)

-- ── the facts by name ──
-- behind the test of a held part and a dropped count
pub record HeldFine (n dropped : ℕ) (o : Office) : Type 0 where
  pub held : Fine n o
  pub short : (j : ℕ) → dropped + length (path o j) ≤ length_limit

pub folded-facts : (n dropped : ℕ) (o : Office) → folded_fine n dropped o ≡ true → HeldFine n dropped o
unfolding folded_fine lengths_fine
folded-facts n dropped o e =
    let l = both-1 _ _ e in
    let settled : ℕ = dropped + length o.log in
    let low : settled ≤ length_limit = leb-true settled length_limit (both-0 _ _ l) in
    let each : List ℕ → Bool = λ t. leb (settled + length t) length_limit in
    record {
      held = fine n o (both-0 _ _ e);
      short = λ j.
          let t = leb-true (settled + length (tail o j)) length_limit (all_get_d each [] o.tails j (both-1 _ _ l) (le-leb (settled + 0) length_limit (omega arith))) in
          omega (arith, path-length o j);
    }

pub folded-of : (n dropped : ℕ) (o : Office) → HeldFine n dropped o → folded_fine n dropped o ≡ true
unfolding folded_fine lengths_fine
folded-of n dropped o f =
    let settled : ℕ = dropped + length o.log in
    both_true _ _ (fine_of n o f.held)
    (both_true _ _ (le-leb settled length_limit (omega (arith, f.short 0, path-length o 0)))
    (all_of (λ (t : List ℕ). leb (settled + length t) length_limit) [] o.tails
    (λ i _. le-leb (settled + length (tail o i)) length_limit (omega (arith, f.short i, path-length o i)))))

-- office k's state among n offices
pub record FoldedFine (n k : ℕ) (f : FoldedOffice) : Type 0 where
  pub held : Fine n f.held
  pub short : (j : ℕ) → f.dropped + length (path f.held j) ≤ length_limit
  pub noted : (j : ℕ) → get_or f.noted j 0 ≤ settled_length f.dropped f.held
  -- own and unused noted cells are 0
  pub eight : length f.noted ≡ 8
  pub unused : (j : ℕ) → (j ≡ k) ⊎ (n ≤ j) → get_or f.noted j 0 ≡ 0

pub folded-test : (n k : ℕ) (f : FoldedOffice) → FoldedFine n k f → folded_fine n f.dropped f.held ≡ true
folded-test n k f x = folded-of n f.dropped f.held (record { held = x.held; short = x.short })

pub record PacketFine (n : ℕ) (m : Packet) : Type 0 where
  pub known : m.sender < n
  pub held : Fine n m.state
  pub short : (j : ℕ) → m.dropped + length (path m.state j) ≤ length_limit

pub unfolded-fine : (n k : ℕ) → FoldedFine n k unfolded
unfolded-fine n k = record {
  held = fresh-fine n;
  short = λ j. omega (arith, ap length (fresh-path j));
  noted = λ j. omega (arith, get_d_replicate {A = ℕ} 8 0 j);
  eight = refl;
  unused = λ j _. get_d_replicate {A = ℕ} 8 0 j;
}

-- ── a state with fewer entries ──
pub shorn-fine : (n c : ℕ) (o : Office) → Fine n o → Fine n (shorn c o)
shorn-fine n c o f =
    let less : length (drop c o.log) ≡ length o.log - c = length-drop c o.log in
    record {
      eight = f.eight;
      most = omega (arith, f.most);
      entries = all_drop (is_entry n) c o.log f.entries;
      tails = all-mono (tail_fine n (length o.log)) (tail_fine n (length (drop c o.log)))
          (λ t x. let y = fine-tail n (length o.log) t x in
          fine-tail-of n (length (drop c o.log)) t (record { short = y.short; room = omega (arith, y.room); entries = y.entries; parts = y.parts }))
          o.tails f.tails;
      rest = f.rest;
    }

shorn-path : (c : ℕ) (o : Office) (j : ℕ) → c ≤ length o.log → c + length (path (shorn c o) j) ≡ length (path o j)
shorn-path c o j h = omega (arith, path-length o j, path-length (shorn c o) j, length-drop c o.log)

-- ── how long paths get ──
under-short : (b : ℕ) (l q p : List ℕ) → length l ≤ b → length q ≤ b → PathUnder l q p → length p ≤ b
under-short b l q p x y (inl e) = omega (arith, ap length e)
under-short b l q p x y (inr e) = omega (arith, ap length e.0)

offered-short : (b : ℕ) (q p r : List ℕ) → length q ≤ b → length p ≤ b → Offered q p r → length r ≤ b
offered-short b q p r x y (inl e) = omega (arith, ap length e)
offered-short b q p r x y (inr e) = omega (arith, ap length e.1)

-- no path of a state is longer than b
abbrev Short : ℕ → Office → Type 0
Short b o = (j : ℕ) → length (path o j) ≤ b

log-short : (b : ℕ) (o : Office) → Short b o → length o.log ≤ b
log-short b o h = omega (arith, h 0, path-length o 0)

catch_up-short : (b : ℕ) (new : List ℕ) (o : Office) → length new ≤ b → Short b o → Short b (catch_up new o)
unfolding catch_up
catch_up-short b new o x h j =
    if-cases (λ r. length (path r j) ≤ b) (extends new o.log) (rebase new o) o
    (λ e. under-short b new (path o j) (path (rebase new o) j) x (h j) (rebase-path new o j (⊏-⊑ o.log new (extends-true new o.log e))))
    (λ _. h j)

take_short : (b k : ℕ) (m : Message) (o : Office) → Short b m.state → Short b o → Short b (with_take k m o)
unfolding with_take
take_short b k m o x h j =
    let l : List ℕ = m.state.log in
    offered-short b (l ++ get_or (offers k m) j []) (path (catch_up l o) j) (path (adopting l (offers k m) (catch_up l o)) j)
    (offer (set_cases m.state.tails k (tail m.state m.sender) [] j)) (catch_up-short b l o (log-short b m.state x) h j) (adopting-path l (offers k m) (catch_up l o) j)
  where
    offer : (get_or (offers k m) j [] ≡ tail m.state j) ⊎ ((j ≡ k) × (k < length m.state.tails) × (get_or (offers k m) j [] ≡ tail m.state m.sender))
        → length (m.state.log ++ get_or (offers k m) j []) ≤ b
    offer (inl e) = subst (λ (t : List ℕ). length (m.state.log ++ t) ≤ b) (sym e) (x j)
    offer (inr e) = subst (λ (t : List ℕ). length (m.state.log ++ t) ≤ b) (sym e.2) (x m.sender)

-- a vote is a path that goes past the log
vote-short : (b : ℕ) (o : Office) (k e : ℕ) → Short b o → votes o k ≡ Some e → length (o.log ++ (e ∷ [])) ≤ b
vote-short b o k e h q = omega (arith, length-append o.log (e ∷ []), path-length o k, h k, go (tail o k) q)
  where
    go : (t : List ℕ) → first t ≡ Some e → 1 ≤ length t
    go [] q = absurd (none-some e q)
    go (x ∷ t) q = omega arith

electing-short : (b : ℕ) (rule : Rule) → NamesVoted rule → (fuel : ℕ) (o : Office) → Short b o → Short b (electing rule fuel o)
unfolding electing
electing-short b rule law zero o h j = h j
electing-short b rule law (suc fuel) o h j =
    next-cases (λ r. length (path r j) ≤ b) (rule o.log (votes o)) o (λ e. electing rule fuel (settle e o)) (h j)
    (λ e q. let v = law o.log (votes o) e q in
    electing-short b rule law fuel (settle e o)
    (λ i. under-short b (o.log ++ (e ∷ [])) (path o i) (path (settle e o) i) (vote-short b o v.0 e h v.1) (h i) (settle-path e o i)) j)

elect-short : (b : ℕ) (rule : Rule) → NamesVoted rule → (o : Office) → Short b o → Short b (with_elect rule o)
unfolding with_elect
elect-short b rule law o h = electing-short b rule law (tail_entries o.tails) o h

-- ── the calls ──
pub fold-fine : (n k : ℕ) (f : FoldedOffice) → FoldedFine n k f → FoldedFine n k (with_fold n k f)
unfolding with_fold
fold-fine n k f x =
    let c : ℕ = fold_count n k f in
    let h : c ≤ length f.held.log = fold-held n k f in
    let less : length (drop c f.held.log) ≡ length f.held.log - c = length-drop c f.held.log in
    record {
      held = shorn-fine n c f.held x.held;
      short = λ j. omega (arith, x.short j, shorn-path c f.held j h);
      noted = λ j. omega (arith, x.noted j);
      eight = x.eight;
      unused = x.unused;
    }

pub folded-issue-fine : (n k line code : ℕ) (f : FoldedOffice) → FoldedFine n k f → k < n → n ≤ 8 → refuse_folded_issue n k line code f ≡ 0 → FoldedFine n k (with_folded_issue k (value k line code) f)
unfolding with_folded_issue with_issue
folded-issue-fine n k line code f x h m r =
    let d = issue-done n k line code f r in
    record {
      held = issue-done-fine n k line code f x.held h m r;
      short = λ j. go j d.within (issue-path k (value k line code) f.held j);
      noted = x.noted;
      eight = x.eight;
      unused = x.unused;
    }
  where
    e : ℕ
    e = value k line code

    go : (j : ℕ) → (settled_length f.dropped f.held + length (tail f.held k) ≡ length_limit → ⊥)
        → (path (with_issue k e f.held) j ≡ path f.held j) ⊎ ((j ≡ k) × (path (with_issue k e f.held) j ≡ path f.held j ++ (e ∷ [])))
        → f.dropped + length (path (with_issue k e f.held) j) ≤ length_limit
    go j d (inl q) = omega (arith, ap length q, x.short j)
    go j d (inr q) =
        let a : length (path f.held j) ≡ length (path f.held k) = ap (λ (i : ℕ). length (path f.held i)) q.0 in
        omega (arith, ap length q.1, length-append (path f.held j) (e ∷ []), x.short k, path-length f.held k, d)

pub folded-elect-fine : (rule : Rule) → NamesVoted rule → (n k : ℕ) (f : FoldedOffice) → FoldedFine n k f → FoldedFine n k (with_folded_elect rule f)
unfolding with_folded_elect
folded-elect-fine rule law n k f x =
    let o : Office = f.held in
    let grown : length o.log ≤ length (with_elect rule o).log = ⊑-length o.log (with_elect rule o).log (elect-moves rule o 0).0 in
    record {
      held = elect-fine rule law n o x.held;
      short = λ j. omega (arith, x.short 0, elect-short (length_limit - f.dropped) rule law o (λ i. omega (arith, x.short i)) j);
      noted = λ j. omega (arith, x.noted j);
      eight = x.eight;
      unused = x.unused;
    }

-- numbers: what is left of a log of l entries, of which g are dropped, when mg are to be dropped
both-dropped : (g mg b : ℕ) → g ≤ b → mg ≤ b → g + (mg - g) ≤ b
both-dropped g mg b h k = omega arith

left-short : (g mg q r b : ℕ) → g + q ≤ b → mg - g + r ≡ q → r ≤ b - (g + (mg - g))
left-short g mg q r b h e = omega arith

right-short : (g mg q r b : ℕ) → mg + q ≤ b → g - mg + r ≡ q → r ≤ b - (g + (mg - g))
right-short g mg q r b h e = omega arith

back : (g q b : ℕ) → g ≤ b → q ≤ b - g → g + q ≤ b
back g q b h k = omega arith

left-long : (g mg l r x : ℕ) → mg ≤ g + l → r ≡ l - (mg - g) → r ≤ x → g + l ≤ g + (mg - g) + x
left-long g mg l r x h e k = omega arith

right-long : (g mg l r x : ℕ) → g ≤ mg + l → r ≡ l - (g - mg) → r ≤ x → mg + l ≤ g + (mg - g) + x
right-long g mg l r x h e k = omega arith

sub-short : (a b c : ℕ) → a ≤ b + c → a - b ≤ c
sub-short a b c h = omega arith

low-short : (g q b : ℕ) → g + q ≤ b → g ≤ b
low-short g q b h = omega arith

pub folded-take-fine : (n k : ℕ) (m : Packet) (f : FoldedOffice) → FoldedFine n k f → PacketFine n m → k < n → refuse_folded_take k m f ≡ 0 → FoldedFine n k (with_folded_take k m f)
unfolding with_folded_take
folded-take-fine n k m f x y h r =
    let t = take_found k m f r in
    let g : ℕ = f.dropped in
    let mg : ℕ = m.dropped in
    let l : List ℕ = f.held.log in
    let ml : List ℕ = m.state.log in
    let o : Office = caught_up m f in
    let i : Message = from_there m f in
    let new : List ℕ = (with_take k i o).log in
    record {
      held = take-done-fine n k i o (shorn-fine n (mg - g) f.held x.held) (shorn-fine n (g - mg) m.state y.held) h t.agrees;
      short = λ j. back (g + (mg - g)) (length (path (with_take k i o) j)) length_limit
          (both-dropped g mg length_limit (low-short g (length (path f.held 0)) length_limit (x.short 0)) (low-short mg (length (path m.state 0)) length_limit (y.short 0)))
          (take_short (length_limit - (g + (mg - g))) k i o
          (λ p. right-short g mg (length (path m.state p)) (length (path i.state p)) length_limit (y.short p) (shorn-path (g - mg) m.state p (sub-short g mg (length ml) t.lasts)))
          (λ p. left-short g mg (length (path f.held p)) (length (path o p)) length_limit (x.short p) (shorn-path (mg - g) f.held p (sub-short mg g (length l) t.reaches))) j);
      noted = λ j. longer j
          (left-long g mg (length l) (length o.log) (length new) t.reaches (length-drop (mg - g) l) (⊑-length o.log new (take-moves k i o 0).0))
          (right-long g mg (length ml) (length i.state.log) (length new) t.lasts (length-drop (g - mg) ml)
          (⊑-length i.state.log new (unfold with_take in catch_up-log i.state.log o (take_done k i o t.agrees).comparable)))
          (set_cases f.noted s (max (get_or f.noted s 0) len) 0 j);
      eight = length-set f.noted s (max (get_or f.noted s 0) len) ∙ x.eight;
      unused = λ j z. still j z t.other (set_cases f.noted s (max (get_or f.noted s 0) len) 0 j);
    }
  where
    s : ℕ
    s = m.sender

    len : ℕ
    len = settled_length m.dropped m.state

    all : List ℕ
    all = set f.noted s (max (get_or f.noted s 0) len)

    Set : ℕ → Type 0
    Set j = (get_or all j 0 ≡ get_or f.noted j 0) ⊎ ((j ≡ s) × (s < length f.noted) × (get_or all j 0 ≡ max (get_or f.noted s 0) len))

    longer : {b : ℕ} (j : ℕ) → settled_length f.dropped f.held ≤ b → len ≤ b → Set j → get_or all j 0 ≤ b
    longer j p q (inl e) = omega (arith, x.noted j)
    longer j p q (inr e) = omega (arith, e.2, x.noted s)

    still : (j : ℕ) → (j ≡ k) ⊎ (n ≤ j) → (s ≡ k → ⊥) → Set j → get_or all j 0 ≡ 0
    still j z d (inl e) = e ∙ x.unused j z
    still j (inl z) d (inr e) = absurd (d (sym e.0 ∙ z))
    still j (inr z) d (inr e) = absurd (omega (arith, e.0, y.known))
