-- The line of a table, piece by piece, and the lines of all, table by table.
--     Seated, seated       the three ballots of a table
--     seated-record        the record with them
--     line-whole, line-written      the three tails and the settled entries, one behind the other, make the line
--     line-short, lines-short      it has at most 28 bytes, and so has each of all
--     LinesRest, lines_next, lines-ends      the loop over the tables
-- Assumes nothing.
use mathlib.Core.Path.{◌≡◌, refl, sym, ap, ap₂, ◌∙◌}
use mathlib.Core.Bool.{true}
use mathlib.Core.List.{List, [], ◌∷◌, ◌++◌, map, flat_map, append-nil}
use Prim.Native.Nat.{ℕ, ◌+◌, ◌*◌, ◌<◌, ◌≤◌}
use native.Mathlib.Omega.{arith}
use lib.ListN.{length, get_or, drop, length-append, drop_of_length-le}
use lib.Seq.{sets}
use Rattle.lists.specs.Tests.{all_b}
use Rattle.lists.proofs.Tests.{both-0, both-1}
use Rattle.lists.proofs.Walk.{rest-step}
use Rattle.lists.proofs.Stores.{Left, left-all, left-next, left-none}
use Rattle.ballots.specs.Ballots.{ballot_of, tail_of}
use Rattle.ballots.specs.declared.Ballot.{Ballot}
use Rattle.ballots.proofs.Laws.{tail-of}
use Rattle.frame.specs.declared.Record.{Record}
use Rattle.tables.specs.Tables.{tables, table_at}
use Rattle.tables.specs.Listed.{small_tail, small_table}
use Rattle.tables.proofs.Places.{tables-2197}
use Rattle.table_lines.specs.Lines.{shown, line_with, with_table, settled_from, table_settled, line_of, lines_of, few}
use Rattle.table_lines.proofs.Shown.{shown-short}
use Rattle.table_lines.proofs.Small.{Three, three, small-two, few-small, small_any}
use Rattle.table_lines.proofs.Settled.{settled-few}

-- ── one line ──
-- a ballot of a table
pub record Seated (b : Ballot) (t : List ℕ) : Type 0 where
  pub is : b ≡ ballot_of t
  pub tail : tail_of b ≡ t
  pub few-entries : few (tail_of b) ≡ true
  pub short : b.len ≤ 32

seat : (b : Ballot) (t : List ℕ) → b ≡ ballot_of t → small_tail t ≡ true → Seated b t
seat b t e h =
    let same : tail_of b ≡ t = ap tail_of e ∙ tail-of t in
    record {
      is = e;
      tail = same;
      few-entries = ap few same ∙ few-small t h;
      short = omega (arith, ap (λ (x : Ballot). x.len) e, small-two t h);
    }

pub seated : (bs : List Ballot) (t : List (List ℕ)) (T : Three t) (d : Ballot) → bs ≡ map ballot_of t
    → Seated (get_or bs 0 d) T.x × (Seated (get_or bs 1 d) T.y × Seated (get_or bs 2 d) T.z)
seated bs t T d e =
    let all : bs ≡ ballot_of T.x ∷ ballot_of T.y ∷ ballot_of T.z ∷ [] = e ∙ ap (λ (l : List (List ℕ)). map ballot_of l) T.are in (
      seat (get_or bs 0 d) T.x (ap (λ (l : List Ballot). get_or l 0 d) all) T.small-x,
      (
        seat (get_or bs 1 d) T.y (ap (λ (l : List Ballot). get_or l 1 d) all) T.small-y,
        seat (get_or bs 2 d) T.z (ap (λ (l : List Ballot). get_or l 2 d) all) T.small-z,
      ),
    )

-- the record with these ballots is the record with the table's
pub seated-record : (r R : Record) (t : List (List ℕ)) (T : Three t) (a b c : Ballot) → Seated a T.x → Seated b T.y → Seated c T.z
    → R ≡ with_table r (a ∷ b ∷ c ∷ []) → R ≡ with_table r (map ballot_of t)
seated-record r R t T a b c A B C e =
    e ∙ ap (with_table r) ((λ i. A.is i ∷ B.is i ∷ C.is i ∷ []) ∙ ap (λ (l : List (List ℕ)). map ballot_of l) (sym T.are))

-- three tails and the settled entries, one behind the other
module _ (settled x y z out o1 o2 o3 o4 : List ℕ) (at n1 n2 n3 n4 : ℕ) where
  pub line-whole : n1 ≡ at + length (shown x ++ (32 ∷ [])) → o1 ≡ sets out at (shown x ++ (32 ∷ []))
      → n2 ≡ n1 + length (shown y ++ (32 ∷ [])) → o2 ≡ sets o1 n1 (shown y ++ (32 ∷ []))
      → n3 ≡ n2 + length (shown z ++ (32 ∷ [])) → o3 ≡ sets o2 n2 (shown z ++ (32 ∷ []))
      → n4 ≡ n3 + length (shown settled ++ (10 ∷ [])) → o4 ≡ sets o3 n3 (shown settled ++ (10 ∷ []))
      → (n4 ≡ at + length (line_with settled (x ∷ y ∷ z ∷ []))) × (o4 ≡ sets out at (line_with settled (x ∷ y ∷ z ∷ [])))
  unfolding line_with
  line-whole a a' b b' c c' d d' =
      let first = left-next (left-all out at (line_with settled (x ∷ y ∷ z ∷ []))) (shown x ++ (32 ∷ [])) refl a a' in
      let second = left-next first (shown y ++ (32 ∷ [])) refl b b' in
      let third = left-next second (shown z ++ (32 ∷ [])) refl c c' in
      left-none (left-next third (shown settled ++ (10 ∷ [])) (sym (append-nil (shown settled ++ (10 ∷ [])))) d d') refl

-- these pieces are the table's line
pub line-written : (r R : Record) (t : List (List ℕ)) (T : Three t) (a b c : Ballot) → Seated a T.x → Seated b T.y → Seated c T.z
    → R ≡ with_table r (a ∷ b ∷ c ∷ []) → line_with (settled_from R) (tail_of a ∷ tail_of b ∷ tail_of c ∷ []) ≡ line_of r t
unfolding line_of
line-written r R t T a b c A B C e =
    ap₂ line_with (ap settled_from (seated-record r R t T a b c A B C e)) ((λ i. A.tail i ∷ B.tail i ∷ C.tail i ∷ []) ∙ sym T.are)

pub spaced-short : (t : List ℕ) (b : ℕ) → few t ≡ true → length (shown t ++ (b ∷ [])) ≤ 7
spaced-short t b h = simp length-append (omega (arith, shown-short t h))

pub line-short : (r : Record) (t : List (List ℕ)) → small_table t ≡ true → length (line_of r t) ≤ 28
unfolding line_of line_with
line-short r t small =
    let T = three t small in
    let s = table_settled r t in
    let whole : line_with s t ≡ line_with s (T.x ∷ T.y ∷ T.z ∷ []) = ap (line_with s) T.are in
    omega (
      arith,
      ap length whole,
      length-append (shown T.x ++ (32 ∷ [])) ((shown T.y ++ (32 ∷ [])) ++ ((shown T.z ++ (32 ∷ [])) ++ (shown s ++ (10 ∷ [])))),
      length-append (shown T.y ++ (32 ∷ [])) ((shown T.z ++ (32 ∷ [])) ++ (shown s ++ (10 ∷ []))),
      length-append (shown T.z ++ (32 ∷ [])) (shown s ++ (10 ∷ [])),
      spaced-short T.x 32 (few-small T.x T.small-x),
      spaced-short T.y 32 (few-small T.y T.small-y),
      spaced-short T.z 32 (few-small T.z T.small-z),
      spaced-short s 10 (settled-few r t small),
    )

-- ── all lines ──
pub lines-short : (r : Record) (ts : List (List (List ℕ))) → all_b small_table ts ≡ true → length (lines_of r ts) ≤ 28 * length ts
unfolding lines_of flat_map all_b
lines-short r [] h = omega arith
lines-short r (t ∷ ts) h = omega (arith, length-append (line_of r t) (lines_of r ts), line-short r t (both-0 _ _ h), lines-short r ts (both-1 _ _ h))

-- the lines of the tables from this place on are left to write
pub record LinesRest (r : Record) (first out : List ℕ) (next place : ℕ) : Type 0 where
  pub within : place ≤ 2197
  pub room : next ≤ 28 * place
  pub left : Left first 0 (lines_of r tables) out next (lines_of r (drop place tables))

module _ {r : Record} {first out : List ℕ} {next place : ℕ} (inv : LinesRest r first out next place) where
  rest_lines : place < 2197 → lines_of r (drop place tables) ≡ line_of r (table_at place) ++ lines_of r (drop (place + 1) tables)
  unfolding lines_of flat_map
  rest_lines h = ap (lines_of r) (rest-step ([] ∷ [] ∷ [] ∷ []) tables place (omega (arith, tables-2197)))

  pub lines_next : {n : ℕ} {last : List ℕ} → place < 2197 → n ≡ next + length (line_of r (table_at place))
      → last ≡ sets out next (line_of r (table_at place)) → LinesRest r first last n (place + 1)
  lines_next h en el =
      record {
        within = omega arith;
        room = omega (arith, line-short r (table_at place) (small_any place), inv.room);
        left = left-next inv.left (line_of r (table_at place)) (rest_lines h) en el;
      }

  pub lines-ends : 2197 ≤ place → (next ≡ length (lines_of r tables)) × (out ≡ sets first 0 (lines_of r tables))
  unfolding lines_of flat_map
  lines-ends h =
      let none = left-none inv.left (ap (lines_of r) (drop_of_length-le tables {i = place} (omega (arith, tables-2197)))) in
      (omega (arith, none.0), none.1)
