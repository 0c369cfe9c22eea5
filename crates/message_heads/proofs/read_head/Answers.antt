-- Each test that fails contradicts a fact of a head within the limits; past them each field is read where it stands.
use Rattle.std.proofs.Common.{arith, rules, ◌≡◌, ◌∙◌, sym, ap₂}
use Rattle.std.proofs.lemmas.Bool.{false≢true}
use Rattle.protocol.specs.Limits.{is_office}
use Rattle.spelling.specs.Reading.{count_at, sender_at}
use Rattle.message_heads.proofs.Heads.{dropped-is, head-made, head-refused, office-facts, settled_is}
use Rattle.message_heads.proofs.read_head.Goals.{then-not-is_office-via-then-not-is_office, then-not-is_office-via-else-not-is_office+then-s-head_size}
use Rattle.message_heads.proofs.read_head.Goals as goal

pub returns-in_default : goal.returns-in_default
returns-in_default c = head-refused _ (λ h. omega (arith, h.layout.four))

pub returns-in_default-2 : goal.returns-in_default-2
returns-in_default-2 c = head-refused _ (λ h. omega (arith, h.layout))

pub returns-in_default-3 : goal.returns-in_default-3
returns-in_default-3 c = head-refused _ (λ h. omega (arith, h.layout))

pub head_size-requires : goal.head_size-requires
head_size-requires c = (office-facts _ _ (sym c.is_office.ensures ∙ c.if-not-is_office.false)).1.0

pub length_place-requires : goal.length_place-requires
length_place-requires c = (office-facts _ _ (sym c.is_office.ensures ∙ c.if-not-is_office.false)).1.0

pub dropped_place-requires : goal.dropped_place-requires
dropped_place-requires c = (office-facts _ _ (sym c.is_office.ensures ∙ c.if-not-is_office.false)).1.0

pub head_size-requires-2 : goal.head_size-requires-2
head_size-requires-2 c = (office-facts _ _ (sym c.is_office.ensures ∙ c.if-not-is_office.false)).1.0

pub weights_at-weights-requires : goal.weights_at-weights-requires
weights_at-weights-requires c =
    let few = (office-facts _ _ (sym c.is_office.ensures ∙ c.if-not-is_office.false)).1.0 in (few, omega (arith, c.head_size.ensures, c.if-s-head_size.false))

-- the two lengths that the head says
pub returns-in_err-held : goal.returns-in_err-held
returns-in_err-held c =
    let count : c.from-n.result ≡ count_at c.args.s.now = search rules in
    let settled = settled_is c.args.s.now _ _ _ count c.length_place.ensures c.read_at-settled.ensures in
    let dropped = dropped-is c.args.s.now _ _ _ count c.dropped_place.ensures c.read_at-dropped.ensures in
    c.from_residual.ensures ∙ head-refused _ (λ h. c.in_err-held.ensures (omega (arith, settled, dropped, h.layout)))

pub returns-then-held-gt-PATH : goal.returns-then-held-gt-PATH
returns-then-held-gt-PATH c =
    let count : c.from-n.result ≡ count_at c.args.s.now = search rules in
    let settled = settled_is c.args.s.now _ _ _ count c.length_place.ensures c.read_at-settled.ensures in
    let dropped = dropped-is c.args.s.now _ _ _ count c.dropped_place.ensures c.read_at-dropped.ensures in
    head-refused _ (λ h. omega (arith, settled, dropped, h.held-few, c.in_ok-held.ensures))

pub returns : goal.returns
returns c =
    let count : c.from-n.result ≡ count_at c.args.s.now = search rules in
    let sender : c.from-sender.result ≡ sender_at c.args.s.now = search rules in
    let settled = settled_is c.args.s.now _ _ _ count c.length_place.ensures c.read_at-settled.ensures in
    let dropped = dropped-is c.args.s.now _ _ _ count c.dropped_place.ensures c.read_at-dropped.ensures in
    let held = c.in_ok-held.ensures in
    head-made c.args.s.now _ _ _ _ _ _ _
    (record {
      four = omega arith;
      mark-0 = search rules;
      mark-1 = search rules;
      head-long = omega (arith, count, c.head_size.ensures, c.if-s-head_size.false);
      dropped-within = omega (arith, settled, dropped, held);
    })
    (ap₂ is_office (sym count) (sym sender) ∙ sym c.is_office.ensures ∙ c.if-not-is_office.false)
    sender count c.weights_at-weights.ensures dropped (omega (arith, settled, dropped, held)) (omega arith) c.head_size-2.ensures c.none.ensures

pub returns-then-not-is_office : goal.returns-then-not-is_office
returns-then-not-is_office c =
    let count : c.from-n.result ≡ count_at c.args.s.now = search rules in
    let sender : c.from-sender.result ≡ sender_at c.args.s.now = search rules in
    elim c.then-not-is_office.branch [
      | then-not-is_office-via-then-not-is_office w ↦ head-refused _ (λ h. false≢true (sym w.if-not-is_office.true ∙ c.is_office.ensures ∙ ap₂ is_office count sender ∙ h.office))
      | then-not-is_office-via-else-not-is_office+then-s-head_size w ↦ head-refused _ (λ h. omega (arith, count, h.layout.head-long, w.head_size.ensures, w.if-s-head_size.true))
    ]
