-- What the test of a message's head says, and the head's reading by it.
--     Within, within-..     what `head_within` says, and both ways between the test and its facts
--     head-..               the head's reading, by that test
-- Assumes nothing.
use Prim.Native.Nat.{ℕ, ◌+◌, ◌≤◌, ◌<◌}
use mathlib.Core.Bool.{false, true}
use mathlib.Core.List.{List}
use mathlib.Core.Path.{◌∙◌, ◌≡◌, sym}
use native.Mathlib.Omega.{arith}
use lib.Dec.{leb}
use lib.ListN.{drop, replicate}
use borrow.Author.Tests.{le-leb, leb-true, ltb-true}
use Rattle.std.proofs.lemmas.Option.{none-some, same_Some}
use Rattle.lists.specs.Tests.{both, pick}
use Rattle.lists.proofs.Tests.{both-0, both-1, pick-false, pick_true}
use Rattle.protocol.specs.Limits.{is_office}
use Rattle.numbers.specs.Numbers.{Bytes, be16, be64, run_at}
use Rattle.numbers.proofs.Numbers.{be64-below}
use Rattle.numbers.proofs.Runs.{bytes_drop}
use Rattle.ballots.specs.declared.Ballot.{Ballot}
use Rattle.ballots.specs.Ballots.{no_ballot}
use Rattle.spelling.specs.Spelling.{head_size, length_place, dropped_place}
use Rattle.spelling.specs.Reading.{count_at, head_ok, sender_at, settled_at, dropped_at, held_at}
use Rattle.spelling.proofs.Ballots.{by-test}
use Rattle.spelling.proofs.Head.{Head, head-facts, head-test}
use Rattle.std.specs.Prelude.{None, Some}
use Rattle.readings.specs.declared.Reading.{Reading}
use Rattle.message_heads.specs.Heads.{eight_weights, head_said, head_within, head_reading}

-- an office of n: n is 1 to 8, and the office is below it
pub office-facts : (n k : ℕ) → is_office n k ≡ true → (1 ≤ n) × ((n ≤ 8) × (k < n))
unfolding is_office
office-facts n k e = let p = both-1 (leb 1 n) _ e in (leb-true _ _ (both-0 _ _ e), (leb-true _ _ (both-0 _ _ p), ltb-true _ _ (both-1 (leb n 8) _ p)))

pub record Within (s : List ℕ) : Type 0 where
  pub layout : Head s
  pub office : is_office (count_at s) (sender_at s) ≡ true
  pub some-office : 1 ≤ count_at s
  pub few-offices : count_at s ≤ 8
  pub sender-below : sender_at s < count_at s
  pub held-few : held_at s ≤ 1024

pub within-facts : (s : List ℕ) → head_within s ≡ true → Within s
unfolding head_within
within-facts s e =
    let t = both-1 (head_ok s) _ e in
    let o = both-0 (is_office (count_at s) (sender_at s)) _ t in
    let f = office-facts (count_at s) (sender_at s) o in
    record {
      layout = head-facts s (both-0 _ _ e);
      office = o;
      some-office = f.0;
      few-offices = f.1.0;
      sender-below = f.1.1;
      held-few = leb-true (held_at s) 1024 (both-1 (is_office (count_at s) (sender_at s)) _ t);
    }

-- the test fails where a fact does not hold; where all but the last hold, that one decides
within-not : (s : List ℕ) → (Within s → ⊥) → false ≡ head_within s
within-not s f = by-test _ (head_within s) (λ e. absurd (f (within-facts s e))) sym

within-last : (s : List ℕ) → Head s → is_office (count_at s) (sender_at s) ≡ true → leb (held_at s) 1024 ≡ head_within s
unfolding head_within both
within-last s h office = rw (head-test s h, office)

-- the numbers of eight bytes that the code reads
pub settled_is : (s : List ℕ) (m p v : ℕ) → m ≡ count_at s → p ≡ length_place m → v ≡ be64 (drop p s) → v ≡ settled_at s
unfolding settled_at
settled_is s m p v e q r = r ∙ rw (q, e)

pub dropped-is : (s : List ℕ) (m p v : ℕ) → m ≡ count_at s → p ≡ dropped_place m → v ≡ be64 (drop p s) → v ≡ dropped_at s
unfolding dropped_at
dropped-is s m p v e q r = r ∙ rw (q, e)

-- the head's reading, by the facts
pub head-refused : (s : List ℕ) → (Within s → ⊥) → None ≡ head_reading s
unfolding head_reading
head-refused s f = sym (pick-false _ (Some (head_said s (replicate 8 no_ballot))) None (sym (within-not s f)))

pub head-made : (s : List ℕ) (a n d k h : ℕ) (ws : List ℕ) (b : Ballot) → Head s → is_office (count_at s) (sender_at s) ≡ true → a ≡ sender_at s → n ≡ count_at s
    → ws ≡ eight_weights n (run_at 2 be16 n (drop 4 s)) → d ≡ dropped_at s → k ≡ held_at s → k ≤ 1024 → h ≡ head_size n → b ≡ no_ballot
    → Some (record { sender = a; n = n; weights = ws; dropped = d; held = k; head = h; ballots = replicate 8 b }) ≡ head_reading s
unfolding head_reading
head-made s a n d k h ws b head office ea en ew ed ek few eh eb =
    let e : head_within s ≡ true = sym (within-last s head office) ∙ le-leb (held_at s) 1024 (omega arith) in
    rw (eb, eh, ek, ed, ew, en, ea) (sym (pick_true _ _ None e))

-- a head that is read, and one that is not
pub head_passed : (s : List ℕ) (m : Reading) → Some m ≡ head_reading s → (head_within s ≡ true) × (m ≡ head_said s (replicate 8 no_ballot))
unfolding head_reading pick
head_passed s m e = by-test _ (head_within s) (λ p. (p, same_Some _ _ (rw p at e))) (λ p. absurd (none-some m (sym (rw p at e))))

pub head-failed : (s : List ℕ) → head_reading s ≡ None → head_within s ≡ false
unfolding head_reading pick
head-failed s e = by-test _ (head_within s) (λ p. absurd (none-some (head_said s (replicate 8 no_ballot)) (sym (rw p at e)))) (λ p. p)

-- the settled length is the dropped count and what is held, a number of 64 bits
pub settled-fits : (s : List ℕ) → Bytes s → Within s → dropped_at s + held_at s < 18446744073709551616
unfolding settled_at
settled-fits s b w = let p : ℕ = length_place (count_at s) in omega (arith, w.layout.dropped-within, be64-below (drop p s) (bytes_drop p s b))
