-- The lines of a tree's splitting split what they decide.
use Rattle.std.proofs.Common.{◌≡◌, ℕ, zero, suc, ◌+◌, ◌-◌, ◌*◌, ◌/◌, ◌%◌, ◌^◌, ◌<◌, ◌≤◌, Bool, true, false, cond, eqb, List, [], ◌∷◌, length, map, Option, Some, None, refl, sym, ◌∙◌, ap, subst, arith}
use Rattle.std.specs.Prelude.{option_map, slice_index_or}
use Rattle.std.specs.List.{All, slice_get}
use Rattle.std.proofs.lemmas.List.{map-append}
use Rattle.std.proofs.lemmas.List.Elements.{All-nil, All-cons, All-append, All-head, All-tail, All-weaker}
use Rattle.std.proofs.lemmas.Nat.{pow_pos}
use Rattle.std.proofs.lemmas.Option.{same_Some}
use Rattle.word_core.specs.declared.cubes.Cube.{Cube}
use Rattle.word_core.specs.declared.branches.Branch.{Branch}
use Rattle.word_core.specs.declared.branches.Branch.TheVariants.{Leaf, Split}
use Rattle.word_core.specs.declared.machines.Line.{Line}
use Rattle.word_core.specs.Cube.{IsCube, holds}
use Rattle.word_core.specs.Machine.{choice}
use Rattle.word_core.specs.Tree.{label_at, label_of, side}
use Rattle.letter_tree.specs.Diagram.{top, IsFork, IsDiagram, IsRooted}
use Rattle.letter_tree.specs.Splitting.{all_cube, fixed, next_lines, lines_from, lines_at, splitting, pattern_of}
use Rattle.letter_tree.proofs.Copies.{read_at}
use Rattle.letter_tree.proofs.Diagrams.{label_at-leaf, label_at-split}
use Rattle.letter_tree.proofs.Distinct.{label_later, parts_differ}
use Rattle.letter_tree.proofs.Joints.{fork_at}
use Rattle.letter_tree.proofs.SplitLines.{IsCube-wider, IsCube-fixed, splitting_cubes, splitting_label}
use Rattle.strategy_play.specs.Splitting.{decision, AreSplit, DependsOn, IsSplitting}
use Rattle.strategy_play.specs.Splitting.IsSplitting.{whole, split}
use Rattle.strategy_play.proofs.Halves.{half_inside, half_holds, want_held, want_within, lacking, raised_held}

chosen : (s lo hi : ℕ) (v : Bool) (x : ℕ) → x / 2 ^ s % 2 ≡ cond v 1 0 → side s lo hi x ≡ cond v hi lo
chosen s lo hi true x b = ap (λ n. cond (eqb n 1) hi lo) b
chosen s lo hi false x b = ap (λ n. cond (eqb n 1) hi lo) b

-- a line's cube lies inside the cube, and what it holds has the line's label
pub record IsInside (nodes : List Branch) (place : ℕ) (c : Cube) (p : Cube × ℕ) : Type 0 where
  pub inside : (x : ℕ) → holds p.0 x ≡ true → holds c x ≡ true
  pub label : (x : ℕ) → holds p.0 x ≡ true → label_at nodes place x ≡ p.1

part_inside : (w : ℕ) (nodes : List Branch) (place s lo hi : ℕ) (c : Cube) (v : Bool) (p : Cube × ℕ) → IsDiagram w nodes → slice_get nodes place ≡ Some (Split s lo hi) → IsCube s c
    → IsInside nodes (cond v hi lo) (fixed c s v) p → IsInside nodes place c p
part_inside w nodes place s lo hi c v p d e is part = record {
  inside = λ x h. (half_inside s c v x is (part.inside x h)).0;
  label = λ x h. label_at-split w nodes d place s lo hi x e ∙ ap (λ i. label_at nodes i x) (chosen s lo hi v x (half_inside s c v x is (part.inside x h)).1) ∙ part.label x h;
}

lines_inside : (w : ℕ) (nodes : List Branch) → IsDiagram w nodes → (n place : ℕ) (c : Cube) → IsCube (top w (slice_get nodes place)) c → All (IsInside nodes place c) (lines_from n nodes place c)
lines_inside w nodes d zero place c is = All-nil (IsInside nodes place c)
lines_inside w nodes d (suc n) place c is = go (slice_get nodes place) refl is (λ i c' is'. lines_inside w nodes d n i c' is')
  where
    go : (o : Option Branch) → slice_get nodes place ≡ o → IsCube (top w o) c → ((i : ℕ) (c' : Cube) → IsCube (top w (slice_get nodes i)) c' → All (IsInside nodes i c') (lines_from n nodes i c'))
        → All (IsInside nodes place c) (next_lines (lines_from n nodes) c o)
    go None e is' ih = All-nil (IsInside nodes place c)
    go (Some (Leaf l)) e is' ih =
        All-cons (IsInside nodes place c) (c, l) [] (record { inside = λ x h. h; label = λ x h. label_at-leaf nodes place l x e }) (All-nil (IsInside nodes place c))
    go (Some (Split s lo hi)) e is' ih =
        let f : IsFork w nodes place s lo hi = fork_at w nodes place s lo hi d e in
        All-append (IsInside nodes place c) (lines_from n nodes lo (fixed c s false)) (lines_from n nodes hi (fixed c s true))
        (All-weaker (IsInside nodes lo (fixed c s false)) (IsInside nodes place c) (λ p part. part_inside w nodes place s lo hi c false p d e is' part) (lines_from n nodes lo (fixed c s false))
        (ih lo (fixed c s false) (IsCube-wider (s + 1) (top w (slice_get nodes lo)) (fixed c s false) (omega (arith, f.low_later)) (IsCube-fixed s c false is'))))
        (All-weaker (IsInside nodes hi (fixed c s true)) (IsInside nodes place c) (λ p part. part_inside w nodes place s lo hi c true p d e is' part) (lines_from n nodes hi (fixed c s true))
        (ih hi (fixed c s true) (IsCube-wider (s + 1) (top w (slice_get nodes hi)) (fixed c s true) (omega (arith, f.high_later)) (IsCube-fixed s c true is'))))

-- each line of a splitting has the label of all that its cube holds
pub splitting_holds : (w : ℕ) (nodes : List Branch) → IsRooted w nodes → All (λ p. (x : ℕ) → holds p.0 x ≡ true → label_of nodes x ≡ p.1) (splitting nodes)
unfolding lines_at
splitting_holds w nodes r =
    All-weaker (IsInside nodes (length nodes - 1) all_cube) (λ p. (x : ℕ) → holds p.0 x ≡ true → label_of nodes x ≡ p.1) (λ p is. is.label) (splitting nodes)
    (lines_inside w nodes r.diagram (suc (length nodes - 1)) (length nodes - 1) all_cube (pow_pos (top w (slice_get nodes (length nodes - 1))), refl))

top_within : (w : ℕ) (nodes : List Branch) → IsDiagram w nodes → (place : ℕ) → top w (slice_get nodes place) ≤ w
top_within w nodes d place = go (slice_get nodes place) refl
  where
    go : (o : Option Branch) → slice_get nodes place ≡ o → top w o ≤ w
    go None e = omega arith
    go (Some (Leaf label)) e = omega arith
    go (Some (Split s lo hi)) e = let f = fork_at w nodes place s lo hi d e in omega (arith, f.signal_in)

-- the line of a cube with the value of its least valuation
abbrev pub line : (ℕ → ℕ × ℕ) → Cube × ℕ → Line
line value p = record { when = p.0; own = (value p.0.want).0; next = (value p.0.want).1 }

-- each line of a tree's splitting has the value of its least valuation, where valuations have one value exactly where they have one label
module _ (w : ℕ) (nodes : List Branch) (r : IsRooted w nodes) (value : ℕ → ℕ × ℕ)
    (same : (x y : ℕ) → x < 2 ^ w → y < 2 ^ w → label_of nodes x ≡ label_of nodes y → value x ≡ value y)
    (apart : (x y : ℕ) → x < 2 ^ w → y < 2 ^ w → value x ≡ value y → label_of nodes x ≡ label_of nodes y) where
  first_line : (cubes : List (Cube × ℕ)) (x l : ℕ) → All (λ p. holds p.0 x ≡ true → value p.0.want ≡ value x) cubes → pattern_of cubes x ≡ Some l → decision (map (line value) cubes) x ≡ Some (value x)
  first_line [] x l all e = absurd (cc)
  first_line (p ∷ ps) x l all e = go (holds p.0 x) refl (first_line ps x l (All-tail (λ p. holds p.0 x ≡ true → value p.0.want ≡ value x) p ps all)) e
    where
      go : (b : Bool) → holds p.0 x ≡ b → (pattern_of ps x ≡ Some l → decision (map (line value) ps) x ≡ Some (value x)) → cond b (Some p.1) (pattern_of ps x) ≡ Some l
          → option_map (λ (l : Line). (l.own, l.next)) (cond b (Some (line value p)) (choice (map (line value) ps) x)) ≡ Some (value x)
      go true here rest is = ap (λ (v : ℕ × ℕ). Some v) (All-head (λ p. holds p.0 x ≡ true → value p.0.want ≡ value x) p ps all here)
      go false here rest is = rest is

  decided : (x : ℕ) → x < 2 ^ w → decision (map (line value) (splitting nodes)) x ≡ Some (value x)
  decided x lx = first_line (splitting nodes) x (label_of nodes x) each (splitting_label w nodes r x)
    where
      each : All (λ p. holds p.0 x ≡ true → value p.0.want ≡ value x) (splitting nodes)
      each i p l h =
          let is : IsCube w (slice_index_or (splitting nodes) i p).0 = splitting_cubes w nodes r i p l in
          let held = splitting_holds w nodes r i p l in
          let q = slice_index_or (splitting nodes) i p in
          same q.0.want x (want_within w q.0 is) lx (held q.0.want (want_held w q.0 is) ∙ sym (held x h))

  -- what the cube holds leads through the place
  abbrev Leads : ℕ → Cube → Type 0
  Leads place c = (x : ℕ) → holds c x ≡ true → label_of nodes x ≡ label_at nodes place x

  leads_on : (place s lo hi : ℕ) (c : Cube) (v : Bool) → slice_get nodes place ≡ Some (Split s lo hi) → IsCube s c → Leads place c → Leads (cond v hi lo) (fixed c s v)
  leads_on place s lo hi c v e is leads x h =
      let b = half_inside s c v x is h in
      leads x b.0 ∙ label_at-split w nodes r.diagram place s lo hi x e ∙ ap (λ i. label_at nodes i x) (chosen s lo hi v x b.1)

  depends : (place s lo hi : ℕ) (c : Cube) → place < length nodes → slice_get nodes place ≡ Some (Split s lo hi) → IsCube s c → Leads place c → DependsOn w (decision (map (line value) (splitting nodes))) c s
  depends place s lo hi c within e is leads =
      let f : IsFork w nodes place s lo hi = fork_at w nodes place s lo hi r.diagram e in
      let bits = parts_differ w nodes place s lo hi r e in
      let x = lacking w s c bits.0 f.signal_in is bits.1 in
      record { without = bits.0 / 2 ^ (s + 1) * 2 * 2 ^ s + c.want; within = x.within; held = half_holds s c false (bits.0 / 2 ^ (s + 1) * 2 * 2 ^ s + c.want) is x.held x.lacks; differ = differs f bits.0 bits.2 (bits.0 / 2 ^ (s + 1) * 2 * 2 ^ s + c.want) x.within (half_holds s c false (bits.0 / 2 ^ (s + 1) * 2 * 2 ^ s + c.want) is x.held x.lacks) x.upper }
    where
      differs : IsFork w nodes place s lo hi → (bits : ℕ) → (label_at nodes lo bits ≡ label_at nodes hi bits → ⊥) → (x : ℕ) → x < 2 ^ w → holds (fixed c s false) x ≡ true → x / 2 ^ (s + 1) ≡ bits / 2 ^ (s + 1)
          → decision (map (line value) (splitting nodes)) x ≡ decision (map (line value) (splitting nodes)) (x + 2 ^ s) → ⊥
      differs f bits ne x lx h upper one =
          let y = raised_held s c x is h in
          let ly : x + 2 ^ s < 2 ^ w = y.0.within w f.signal_in lx in
          let labels : label_of nodes x ≡ label_of nodes (x + 2 ^ s) = apart x (x + 2 ^ s) lx ly (same_Some (value x) (value (x + 2 ^ s)) (sym (decided x lx) ∙ one ∙ decided (x + 2 ^ s) ly)) in
          let low : label_of nodes x ≡ label_at nodes lo bits = leads_on place s lo hi c false e is leads x h ∙ label_later w nodes r.diagram lo (s + 1) x bits (omega (arith, f.low_later)) upper in
          let high : label_of nodes (x + 2 ^ s) ≡ label_at nodes hi bits =
          leads_on place s lo hi c true e is leads (x + 2 ^ s) (half_holds s c true (x + 2 ^ s) is y.1 y.0.has)
          ∙ label_later w nodes r.diagram hi (s + 1) (x + 2 ^ s) bits (omega (arith, f.high_later)) (y.0.upper ∙ upper) in
          ne (sym low ∙ labels ∙ high)

  lines_split : (n place from : ℕ) (c : Cube) → place < n → place < length nodes → from ≤ top w (slice_get nodes place) → IsCube from c → Leads place c
      → IsSplitting w (decision (map (line value) (splitting nodes))) from c (map (line value) (lines_from n nodes place c))
  lines_split zero place from c l within above is leads = absurd (omega arith)
  lines_split (suc n) place from c l within above is leads = go (slice_get nodes place) refl above (λ i f' c' l' w' a' is' leads'. lines_split n i f' c' l' w' a' is' leads')
    where
      go : (o : Option Branch) → slice_get nodes place ≡ o → from ≤ top w o
          → ((i f' : ℕ) (c' : Cube) → i < n → i < length nodes → f' ≤ top w (slice_get nodes i) → IsCube f' c' → Leads i c' → IsSplitting w (decision (map (line value) (splitting nodes))) f' c' (map (line value) (lines_from n nodes i c')))
          → IsSplitting w (decision (map (line value) (splitting nodes))) from c (map (line value) (next_lines (lines_from n nodes) c o))
      go None e a ih = absurd (let some = read_at nodes place (Leaf 0) _ within refl in cc)
      go (Some (Leaf label)) e a ih = whole from c (value c.want).0 (value c.want).1 constant
        where
          constant : (x : ℕ) → x < 2 ^ w → holds c x ≡ true → decision (map (line value) (splitting nodes)) x ≡ Some (value c.want)
          constant x lx h =
              let wide : IsCube w c = IsCube-wider from w c (omega (arith, above, top_within w nodes r.diagram place)) is in
              let at : (y : ℕ) → holds c y ≡ true → label_of nodes y ≡ label = λ y k. leads y k ∙ label_at-leaf nodes place label y e in
              decided x lx ∙ ap (λ (v : ℕ × ℕ). Some v) (same x c.want lx (want_within w c wide) (at x h ∙ sym (at c.want (want_held w c wide))))
      go (Some (Split s lo hi)) e a ih =
          let f : IsFork w nodes place s lo hi = fork_at w nodes place s lo hi r.diagram e in
          let at : IsCube s c = IsCube-wider from s c a is in
          subst (IsSplitting w (decision (map (line value) (splitting nodes))) from c) (sym (map-append (line value) (lines_from n nodes lo (fixed c s false)) (lines_from n nodes hi (fixed c s true))))
          (split from s c (map (line value) (lines_from n nodes lo (fixed c s false))) (map (line value) (lines_from n nodes hi (fixed c s true))) a f.signal_in (depends place s lo hi c within e at leads)
          (ih lo (s + 1) (fixed c s false) (omega (arith, f.low_earlier)) (omega (arith, f.low_earlier)) (omega (arith, f.low_later)) (IsCube-fixed s c false at) (leads_on place s lo hi c false e at leads))
          (ih hi (s + 1) (fixed c s true) (omega (arith, f.high_earlier)) (omega (arith, f.high_earlier)) (omega (arith, f.high_later)) (IsCube-fixed s c true at) (leads_on place s lo hi c true e at leads)))

  pub splitting_splits : AreSplit w (map (line value) (splitting nodes))
  unfolding lines_at
  splitting_splits =
      lines_split (suc (length nodes - 1)) (length nodes - 1) 0 all_cube (omega arith) (omega (arith, r.some)) (omega arith) (pow_pos 0, refl) (λ x h. refl)
