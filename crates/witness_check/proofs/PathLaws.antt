-- Paths of the product, their counts, and tables of what is reached.
use Rattle.std.proofs.Common.{◌≡◌, ℕ, zero, suc, ◌+◌, ◌≤◌, Bool, true, false, List, refl, sym, ap, subst, arith}
use Rattle.std.specs.List.{Contains}
use Rattle.witness_check.specs.declared.products.Arc.{Arc}
use Rattle.witness_check.specs.Levels.{is_in, arcs_at, mark_of, Path, start, step, IsReached, Closed, seed, more, IsBehind, first, further, IsMarkedEnd}

module _ (A : List (List Arc)) where
  -- behind a table whose nodes are reached by so many marks, nodes are reached by one more
  behind_sound : (t : List Bool) (c : ℕ) → ((i : ℕ) → is_in t i ≡ true → IsReached A c i) → (i : ℕ) → IsBehind A t i → IsReached A (suc c) i
  behind_sound t c level i (first j arc e h m) =
      let r = level j e in
      let p : Path A (mark_of arc.marked + r.0) arc.to = step arc r.2 h in
      let one : mark_of arc.marked ≡ 1 = ap mark_of m in
      (mark_of arc.marked + r.0, omega (arith, r.1), p)
  behind_sound t c level i (further {i = j} arc b h) =
      let r = behind_sound t c level j b in
      (mark_of arc.marked + r.0, omega (arith, r.1), step arc r.2 h)

  -- a path with one more mark than a level ends behind it
  behind_whole : (t : List Bool) (c : ℕ) → ((i : ℕ) → IsReached A c i → is_in t i ≡ true) → (d i : ℕ) → Path A d i → suc c ≤ d → IsBehind A t i
  behind_whole t c level d i start l = absurd (omega arith)
  behind_whole t c level d i (step {c = e} {i = j} arc p h) l = go arc.marked refl (λ k. behind_whole t c level e j p k)
    where
      go : (b : Bool) → arc.marked ≡ b → (suc c ≤ e → IsBehind A t j) → IsBehind A t arc.to
      go true m ih = first j arc (level j (e, (let one : mark_of arc.marked ≡ 1 = ap mark_of m in omega arith), p)) h m
      go false m ih = further arc (ih (let none : mark_of arc.marked ≡ 0 = ap mark_of m in omega arith)) h

  pub next_sound : (t : List Bool) (c : ℕ) → ((i : ℕ) → (is_in t i ≡ true → IsReached A c i) × (IsReached A c i → is_in t i ≡ true)) → (i : ℕ) → IsBehind A t i → IsReached A (suc c) i
  next_sound t c level i b = behind_sound t c (λ j e. (level j).0 e) i b

  pub next_whole : (t : List Bool) (c : ℕ) → ((i : ℕ) → (is_in t i ≡ true → IsReached A c i) × (IsReached A c i → is_in t i ≡ true)) → (i : ℕ) → IsReached A (suc c) i → IsBehind A t i
  next_whole t c level i r = behind_whole t c (λ j e. (level j).1 e) r.0 i r.2 r.1

  -- a level that lies in the next one goes on for ever
  behind_up : (t : List Bool) (c : ℕ) (more_marks : ℕ) → ((i : ℕ) → is_in t i ≡ true → IsReached A c i) → ((i : ℕ) → IsReached A c i → is_in t i ≡ true) → ((i : ℕ) → is_in t i ≡ true → IsReached A (suc c) i) → (i : ℕ) → is_in t i ≡ true → IsReached A (c + more_marks) i
  behind_up t c zero sound whole up i e = let r = sound i e in (r.0, omega (arith, r.1), r.2)
  behind_up t c (suc n) sound whole up i e =
      let r = up i e in
      let b = behind_whole t c whole r.0 i r.2 r.1 in
      let s = behind_sound t (c + n) (λ j h. behind_up t c n sound whole up j h) i b in
      (s.0, omega (arith, s.1), s.2)

  pub for_ever : (t : List Bool) (c k : ℕ) → ((i : ℕ) → (is_in t i ≡ true → IsReached A c i) × (IsReached A c i → is_in t i ≡ true)) → ((i : ℕ) → is_in t i ≡ true → IsReached A (suc c) i) → (i : ℕ) → is_in t i ≡ true → IsReached A k i
  for_ever t c k level up i e =
      let r = behind_up t c k (λ j h. (level j).0 h) (λ j h. (level j).1 h) up i e in
      (r.0, omega (arith, r.1), r.2)

  -- closed tables
  pub closed_first : (t : List Bool) → ((i : ℕ) → is_in t i ≡ true → i ≡ 0) → (i : ℕ) → Closed A t i → IsReached A 0 i
  closed_first t only i (seed e) = (0, omega arith, subst (Path A 0) (sym (only i e)) start)
  closed_first t only i (more {i = j} arc c h) =
      let r = closed_first t only j c in
      (mark_of arc.marked + r.0, omega arith, step arc r.2 h)

  first_closed_at : (t : List Bool) → is_in t 0 ≡ true → (d i : ℕ) → Path A d i → Closed A t i
  first_closed_at t e d i start = seed e
  first_closed_at t e d i (step {c = c} {i = j} arc p h) = more arc (first_closed_at t e c j p) h

  pub first_closed : (t : List Bool) → is_in t 0 ≡ true → (i : ℕ) → IsReached A 0 i → Closed A t i
  first_closed t e i r = first_closed_at t e r.0 i r.2

  pub closed_behind : (t from : List Bool) → ((i : ℕ) → is_in t i ≡ true → IsMarkedEnd A from i) → (i : ℕ) → Closed A t i → IsBehind A from i
  closed_behind t from sound i (seed e) =
      let s = sound i e in
      subst (IsBehind A from) (sym s.5) (first s.0 s.1 s.2 s.3 s.4)
  closed_behind t from sound i (more {i = j} arc c h) = further arc (closed_behind t from sound j c) h

  pub behind_closed : (t from : List Bool) → ((j : ℕ) (arc : Arc) → is_in from j ≡ true → Contains (arcs_at A j) arc → arc.marked ≡ true → is_in t arc.to ≡ true) → (i : ℕ) → IsBehind A from i → Closed A t i
  behind_closed t from whole i (first j arc e h m) = seed (whole j arc e h m)
  behind_closed t from whole i (further {i = j} arc b h) = more arc (behind_closed t from whole j b) h
