-- The refusals in the order of the definition. The own ballot's tail stands in its first cells.
use native.Mathlib.Omega.{arith}
use mathlib.Core.Path.{◌≡◌, sym, ap, ◌∙◌}
use mathlib.Core.List.{List}
use Prim.Native.Nat.{ℕ, ◌+◌, ◌/◌}
use mathlib.Core.Bool.{true, false}
use lib.Dec.{eqb, leb}
use lib.ListN.{length, get_or}
use lib.Seq.{length-take-le}
use borrow.Author.Tests.{eq-eqb, ne_eqb, le-leb, lt-leb}
use borrow.Author.Rules.{rules}
use Rattle.lists.specs.Tests.{pick}
use Rattle.protocol.specs.Entry.{proper}
use Rattle.protocol.specs.Counts.{count_in}
use Rattle.protocol.specs.Fair.{part}
use Rattle.protocol.specs.Issue.{refusal_at}
use Rattle.protocol.specs.Limits.{length_limit}
use Rattle.protocol_laws.proofs.Counts.{count-of}
use Rattle.ballots.specs.Ballots.{tail_of}
use Rattle.issuance.proofs.allowed.Goals as goal

pub returns-then-not-proper : goal.returns-then-not-proper
unfolding refusal_at pick
returns-then-not-proper c = simp (sym c.proper.ensures ∙ c.if-not-proper.true)

pub returns-then-held-b-eq-PATH : goal.returns-then-held-b-eq-PATH
unfolding refusal_at pick
returns-then-held-b-eq-PATH c =
    let limits : let a = c.args in proper a.n a.line a.code ≡ true = sym c.proper.ensures ∙ c.if-not-proper.false in
    let a = c.args in
    simp (limits, eq-eqb (a.held + a.b.len) 1024 c.if-held-b-eq-PATH.true)

-- the settled length is at most 2^63, so the sum fits 64 bits
pub overflow_add-settled : goal.overflow_add-settled
unfolding length_limit
overflow_add-settled c = omega (arith, c.requires)

pub returns-then-settled-b : goal.returns-then-settled-b
unfolding refusal_at length_limit pick
returns-then-settled-b c =
    let limits : let a = c.args in proper a.n a.line a.code ≡ true = sym c.proper.ensures ∙ c.if-not-proper.false in
    let room : let a = c.args in eqb (a.held + a.b.len) 1024 ≡ false = let a = c.args in ne_eqb (a.held + a.b.len) 1024 c.if-held-b-eq-PATH.false in
    let a = c.args in
    simp (limits, room, eq-eqb (a.settled + a.b.len) 9223372036854775808 c.if-settled-b.true)

pub returns-then-counts-own : goal.returns-then-counts-own
unfolding pick refusal_at length_limit
returns-then-counts-own c =
    let limits : let a = c.args in proper a.n a.line a.code ≡ true = sym c.proper.ensures ∙ c.if-not-proper.false in
    let room : let a = c.args in eqb (a.held + a.b.len) 1024 ≡ false = let a = c.args in ne_eqb (a.held + a.b.len) 1024 c.if-held-b-eq-PATH.false in
    let passed : let a = c.args in (k : ℕ) → refusal_at a.n a.line a.code a.settled a.held a.b.len k ≡ pick (leb (part a.n) k) 11 0 = λ k. let a = c.args in simp (limits, room, ne_eqb (a.settled + a.b.len) 9223372036854775808 c.if-settled-b.false) in
    let own-count : let a = c.args in get_or c.in_words-counts.result a.own 0 ≡ count_in a.own (tail_of a.b) = let a = c.args in ap (λ (l : List ℕ). get_or l a.own 0) c.in_words-counts.ensures ∙ count-of 8 (tail_of a.b) a.own c.requires.1.1.0 in
    let a = c.args in
    sym (passed _ ∙ rw (le-leb (32 / a.n) (count_in a.own (tail_of a.b)) (omega (arith, own-count, c.if-counts-own.true))))

pub returns : goal.returns
unfolding pick refusal_at length_limit
returns c =
    let limits : let a = c.args in proper a.n a.line a.code ≡ true = sym c.proper.ensures ∙ c.if-not-proper.false in
    let room : let a = c.args in eqb (a.held + a.b.len) 1024 ≡ false = let a = c.args in ne_eqb (a.held + a.b.len) 1024 c.if-held-b-eq-PATH.false in
    let passed : let a = c.args in (k : ℕ) → refusal_at a.n a.line a.code a.settled a.held a.b.len k ≡ pick (leb (part a.n) k) 11 0 = λ k. let a = c.args in simp (limits, room, ne_eqb (a.settled + a.b.len) 9223372036854775808 c.if-settled-b.false) in
    let own-count : let a = c.args in get_or c.in_words-counts.result a.own 0 ≡ count_in a.own (tail_of a.b) = let a = c.args in ap (λ (l : List ℕ). get_or l a.own 0) c.in_words-counts.ensures ∙ count-of 8 (tail_of a.b) a.own c.requires.1.1.0 in
    let a = c.args in
    sym (passed _ ∙ rw (lt-leb (32 / a.n) (count_in a.own (tail_of a.b)) (omega (arith, own-count, c.if-counts-own.false))))

pub overflow_cast-n : goal.overflow_cast-n
overflow_cast-n c = omega (arith, c.requires.1.0)

pub in_words-counts-requires : goal.in_words-counts-requires
in_words-counts-requires c =
    let full : length c.args.b.cells ≡ 32 = search rules in
    let taken : length (tail_of c.args.b) ≡ c.args.b.len = length-take-le c.args.b.len c.args.b.cells (omega (arith, full, c.requires.1.1.1.1.1)) in
    omega (arith, taken, c.requires.1.1.1.1.1)
