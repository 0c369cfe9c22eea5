-- Settled: every entry of the order was elected, by votes that were cast at its place. At each place one entry at most can be elected, so what an
-- office settles is in the order already or comes to its end. Assumes nothing.
use mathlib.Core.Path.{◌≡◌, refl, ap, subst, ◌∙◌}
use mathlib.Core.List.{List, [], ◌∷◌, ◌++◌}
use Rattle.std.specs.Prelude.{Option, None, Some}
use Rattle.std.proofs.lemmas.Option.{same_Some, none-some}
use mathlib.Core.Logic.{◌⊎◌, inl, inr}
use Prim.Native.Nat.{ℕ}
use Rattle.protocol.specs.Beginning.{◌⊑◌, ◌⊏◌}
use Rattle.protocol.specs.Vote.{Votes, Rule}
use Rattle.protocol.specs.Office.{Office, tail, path, first, votes}
use Rattle.protocol.proofs.World.{Call}
use Rattle.protocol_laws.proofs.Beginning.{⊑_refl, ⊑_trans, ⊏-⊑, ⊑-cases, ⊑-append, ⊏-next, ⊏-cons, snoc-⊏, snoc-⊑, snoc-cases}
use Rattle.protocol_laws.proofs.Vote.{Grows}
use Rattle.one_order.proofs.Lawful.{Lawful}
use Rattle.one_order.proofs.History.{Past, log_at, own_at}
use Rattle.one_order.proofs.Steady.{Voted, voted-unique, voted-later}
use Rattle.one_order.proofs.Known.{Snapshot, BallotsKnown}
use Rattle.one_order.proofs.Issued.{OwnIssued, EachIssued, issued-under, each-issued-wider, each-issued-self}

or_else : Option ℕ → Option ℕ → Option ℕ
or_else None b = b
or_else (Some x) b = Some x

module _ (rule : Rule) (n : ℕ) (law : Lawful rule) where
  -- votes that were cast at p elect e
  pub record Elected (cs : List Call) (p : List ℕ) (e : ℕ) : Type 0 where
    pub ballots : Votes
    pub cast : (k x : ℕ) → ballots k ≡ Some x → Voted rule n cs k p x
    pub wins : law.Winner p ballots e

  pub elected-unique : (cs : List Call) (p : List ℕ) (e f : ℕ) → Elected cs p e → Elected cs p f → e ≡ f
  unfolding or_else
  elected-unique cs p e f a b = law.unique p both e f (law.grows p a.ballots both e left a.wins) (law.grows p b.ballots both f right b.wins)
    where
      both : Votes
      both k = or_else (a.ballots k) (b.ballots k)

      left : Grows a.ballots both
      left k x q = ap (λ (o : Option ℕ). or_else o (b.ballots k)) q

      right : Grows b.ballots both
      right k x q = go (a.ballots k) refl
        where
          go : (o : Option ℕ) → a.ballots k ≡ o → both k ≡ Some x
          go None r = ap (λ (o : Option ℕ). or_else o (b.ballots k)) r ∙ q
          go (Some y) r = ap (λ (o : Option ℕ). or_else o (b.ballots k)) r ∙ ap Some (voted-unique rule n cs k p y x (a.cast k y r) (b.cast k x q))

  pub elected-later : {h cs : List Call} {p : List ℕ} {e : ℕ} → Past h cs → Elected h p e → Elected cs p e
  elected-later a i = record { ballots = i.ballots; cast = λ k x q. voted-later rule n a (i.cast k x q); wins = i.wins }

  -- every entry of the order was elected
  abbrev pub EachElected : List Call → List ℕ → Type 0
  EachElected cs q = (p : List ℕ) (e : ℕ) → (p ++ (e ∷ [])) ⊑ q → Elected cs p e

  -- the rule's winner at an office with known ballots is elected
  pub rule-elects : (cs : List Call) (o : Office) (e : ℕ) → BallotsKnown rule n cs o → rule o.log (votes o) ≡ Some e → Elected cs o.log e
  rule-elects cs o e b w = record { ballots = votes o; cast = λ k x q. go k x (tail o k) refl q; wins = law.sound o.log (votes o) e w }
    where
      go : (k x : ℕ) (t : List ℕ) → tail o k ≡ t → first t ≡ Some x → Voted rule n cs k o.log x
      go k x [] r q = absurd (none-some x q)
      go k x (y ∷ t) r q =
          let same : path o k ≡ o.log ++ (x ∷ t) = ap (λ (s : List ℕ). o.log ++ s) r ∙ ap (λ (z : ℕ). o.log ++ (z ∷ t)) (same_Some y x q) in
          let s : Snapshot rule n cs k o.log (path o k) = b k (rw same (⊏-cons o.log x t)) in
          record { moment = s.moment; past = s.past; within = s.within; for = rw (s.own ∙ same) (snoc-⊑ o.log x t) }

  pub record Extended (cs : List Call) (q l : List ℕ) (e : ℕ) : Type 0 where
    pub order : List ℕ
    pub grows : q ⊑ order
    pub elected : EachElected cs order
    pub has : (l ++ (e ∷ [])) ⊑ order
    pub same : (order ≡ q) ⊎ (l ++ (e ∷ []) ≡ order)

  -- an elected entry is in the order already, or comes to its end
  pub extend : (cs : List Call) (q l : List ℕ) (e : ℕ) → EachElected cs q → l ⊑ q → Elected cs l e → Extended cs q l e
  extend cs q l e ok h w = go (⊑-cases l q h)
    where
      go : (l ≡ q) ⊎ (l ⊏ q) → Extended cs q l e
      go (inl d) = record {
        order = l ++ (e ∷ []);
        grows = subst (λ (z : List ℕ). z ⊑ (l ++ (e ∷ []))) d (⊑-append l (e ∷ []));
        elected = λ p x i. old p x (snoc-cases p l x e i);
        has = ⊑_refl (l ++ (e ∷ []));
        same = inr refl;
      }
        where
          old : (p : List ℕ) (x : ℕ) → ((p ++ (x ∷ [])) ⊑ l) ⊎ ((p ≡ l) × (x ≡ e)) → Elected cs p x
          old p x (inl i) = ok p x (⊑_trans (p ++ (x ∷ [])) l q i h)
          old p x (inr i) = rw (i.0, i.1) w
      go (inr d) =
          let f = ⊏-next l q d in
          record {
            order = q;
            grows = ⊑_refl q;
            elected = ok;
            has = rw (elected-unique cs l e f.0 w (ok l f.0 f.1)) f.1;
            same = inl refl;
          }

  -- the order's entries were issued, since a winner has a vote
  pub order-issued : (cs : List Call) (q : List ℕ) → EachElected cs q → OwnIssued rule n cs → EachIssued rule n cs q q
  order-issued cs q ok f p e i =
      let w = ok p e i in
      let k = law.voted p w.ballots e w.wins in
      let v = w.cast k.0 e k.1 in
      let j : ℕ = k.0 in
      let i' = f v.moment v.past j p e v.for in
      issued-under rule n q i' (⊑_trans (log_at rule n i'.k i'.moment) (log_at rule n j v.moment) q i'.heard
      (⊑_trans (log_at rule n j v.moment) p q v.within (⊏-⊑ p q (snoc-⊏ p q e i))))

  -- an office's ballots are paths of others, or its log
  pub ballot-issued : (cs : List Call) (q : List ℕ) (o : Office)
      → EachIssued rule n cs q q → o.log ⊑ q → BallotsKnown rule n cs o → OwnIssued rule n cs → (j : ℕ) → EachIssued rule n cs o.log (path o j)
  ballot-issued cs q o g h b f j = go (⊑-cases o.log (path o j) (⊑-append o.log (tail o j)))
    where
      go : (o.log ≡ path o j) ⊎ (o.log ⊏ path o j) → EachIssued rule n cs o.log (path o j)
      go (inl e) = subst (λ (z : List ℕ). EachIssued rule n cs o.log z) e (each-issued-self rule n cs q o.log q h g)
      go (inr d) = let s = b j d in rw (← s.own) (each-issued-wider rule n cs (log_at rule n j s.moment) o.log (own_at rule n j s.moment) s.within (f s.moment s.past j))
