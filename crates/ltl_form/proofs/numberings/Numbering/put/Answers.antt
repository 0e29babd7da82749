use Rattle.std.proofs.Common.{◌≡◌, ◌<◌, ◌⊎◌, inl, inr, true, false, length, set, Some, ap, sym, ◌∙◌, subst, arith}
use Rattle.std.specs.List.{list_any}
use Rattle.indexmap.specs.IndexSet.{insert_key}
use Rattle.ltl_form.specs.contracts.normals.NodePartialEq.TheImpl.{eq-value}
use Rattle.ltl_form.specs.Normal.{IsNodeAt}
use Rattle.ltl_form.specs.Numbering.{IsNumbered}
use Rattle.ltl_form.proofs.NodeLists.{over_full, inserted, puts}
use Rattle.ltl_form.proofs.numberings.Numbering.put.Goals.{else-len-eq-MOST-via-then-len-eq-MOST+else-not-contains, else-len-eq-MOST-via-else-len-eq-MOST}
use Rattle.ltl_form.proofs.numberings.Numbering.put.Goals as goal

pub returns-then-not-contains-clause-over : goal.returns-then-not-contains-clause-over
returns-then-not-contains-clause-over c =
    let old = c.args.self.now in
    let known : IsNumbered old.nodes = subst (λ v. IsNumbered v.nodes) c.self.view_is c.self.invariant in
    let none : list_any (eq-value.it c.args.node) old.nodes ≡ false =
    subst (λ v. list_any (eq-value.it c.args.node) v.nodes ≡ false) c.self.view_is (sym c.contains.ensures ∙ c.if-not-contains.true) in
    let full : length old.nodes ≡ 512 = subst (λ v. length v.nodes ≡ 512) c.self.view_is (sym c.len.ensures.len ∙ c.if-len-eq-MOST.true) in
    λ e. over_full old.nodes c.args.node known.below known.distinct c.requires.node none full

pub invariant_of-self-2 : goal.invariant_of-self-2
invariant_of-self-2 c =
    let old = c.self.inside.nodes.keys in
    let fits : IsNodeAt (length old) c.args.node = subst (λ v. IsNodeAt (length v.nodes) c.args.node) (sym c.self.view_is) c.requires.node in
    let room : (list_any (eq-value.it c.args.node) old ≡ true) ⊎ (length old < 512) = elim c.else-len-eq-MOST.branch [
      | else-len-eq-MOST-via-then-len-eq-MOST+else-not-contains w ↦ inl (sym w.contains.ensures ∙ w.if-not-contains.false)
      | else-len-eq-MOST-via-else-len-eq-MOST w ↦ inr (let l : c.len.result ≡ length old = c.len.ensures.len in omega (arith, l, c.self.invariant.few, w.if-len-eq-MOST.false))
    ] in
    subst IsNumbered (sym c.in_ok-number.ensures.keys)
    (inserted old c.args.node c.self.invariant.below c.self.invariant.distinct fits room c.self.invariant.few)

pub returns-clause-exact : goal.returns-clause-exact
returns-clause-exact c =
    let s = c.in_ok-number.ensures.stored in
    puts c.args.self.now _ c.args.at c.args.node c.in_ok-number.number (subst (λ v. IsNumbered v.nodes) c.self.view_is c.self.invariant) c.requires.node
    (subst (λ v. c.insert_full.new.self.keys ≡ insert_key eq-value.it v.nodes c.args.node) c.self.view_is c.in_ok-number.ensures.keys)
    s.0 s.1 s.2 (ap (λ v. set v.numbers c.args.at (Some c.in_ok-number.number)) c.self.view_is)
