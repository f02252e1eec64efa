-- What one unmap of a range comes to, by what the code has of it.
use Rattle.std.specs.Prelude.{min}
use Prim.Native.Nat.{ℕ, ◌+◌, ◌-◌, ◌<◌, ◌≤◌}
use mathlib.Core.Path.{◌≡◌, refl, ap, sym, ◌∙◌, subst}
use mathlib.Core.Bool.{Bool, true}
use mathlib.Core.List.{List}
use native.Mathlib.Decide.{ℕ_discrete}
use lib.ListN.{length, get_or, set}
use lib.Seq.{get_or-set_same, get_or-set_other}
use native.Mathlib.Omega.{arith}
use Rattle.path.specs.Geometry.{Granule, Sane, size_at, physical}
use Rattle.path.specs.Laws.{good_setup_lem, size_fits}
use Rattle.path.specs.Paths.{base_at, path_of}
use Rattle.path.specs.Areas.{area_of}
use Rattle.path.specs.RegionLaws.{base_le}
use Rattle.model.specs.declared.Refusal.{Refusal}
use Rattle.model.specs.declared.Refusal.TheVariants as R
use Rattle.model.specs.Answers.{gave, hole, refused, says_refusal, number_of, Pool, Done, done}
use Rattle.model.specs.Walk.{no_way}
use Rattle.model.specs.Calls.{good_pool, walk_to, unmap_w}
use Rattle.model.proofs.DescentLaws.{clash}
use Rattle.model.proofs.RangeWalks.{left_low}
use Rattle.model.proofs.RangeUnmapLaws.{given_at, removed_at}
use Rattle.sweeps.specs.Parts.{until_end, Rest, Removes, Meets, used_in}
use Rattle.sweeps.specs.Removing.{Unmaps, removes_one, passes_hole, refuses, unmap_comes, hole_step, frame_step, page_step}

module _ (G : Granule) (Z : Sane G) (p : Pool) (x end : ℕ) (R : Rest G p x end) (l : x < end) where
  -- the height where a walk ends has a size, and no sum wraps
  size_low : size_at G (walk_to G p 0 x).left ≤ physical
  size_low =
      size_fits G Z (omega (arith, left_low G (area_of p.numbers) p.words 0 (path_of G x) (p.numbers.levels - 1) no_way 0, (good_setup_lem R.good).numbers.not_more))

  pub given_step : {b s k t next : ℕ} {q : Pool} → done (gave b s k t) q ≡ unmap_w G p x → next ≡ min (x + s) end → Removes G p x next 1 t q × (x < next) × (next ≤ end)
  given_step {b} {s} {k} {t} {next} {q} e n = go (unmap_w G p x) refl (unmap_comes G p x) e
    where
      go : (d : Done) → unmap_w G p x ≡ d → Unmaps G p x d → done (gave b s k t) q ≡ d → Removes G p x next 1 t q × (x < next) × (next ≤ end)
      go d w (removes_one b' k' f a) e =
          let sz : s ≡ size_at G (walk_to G p 0 x).left = cc (ap (λ (y : Done). y.answer) e) in
          let tz : t ≡ given_at G p x = cc (ap (λ (y : Done). y.answer) e) in
          let (r, u, v) = frame_step G Z p x end R l b' k' f a refl w (n ∙ ap (λ (z : ℕ). min (x + z) end) sz) in
          (subst (λ (y : Pool). Removes G p x next 1 t y) (sym (ap (λ (y : Done). y.after) e)) (subst (λ (z : ℕ). Removes G p x next 1 z (removed_at G p x)) (sym tz) r), u, v)
      go d w (passes_hole f) e = clash (cc (ap (λ (y : Done). y.answer) e))
      go d w (refuses j) e = clash (cc (ap (λ (y : Done). y.answer) e))

  pub hole_stepped : {b s next : ℕ} {q : Pool} → done (hole b s) q ≡ unmap_w G p x → next ≡ min (b + s) end → Removes G p x next 0 0 q × (x < next) × (next ≤ end)
  hole_stepped {b} {s} {next} {q} e n = go (unmap_w G p x) refl (unmap_comes G p x) e
    where
      go : (d : Done) → unmap_w G p x ≡ d → Unmaps G p x d → done (hole b s) q ≡ d → Removes G p x next 0 0 q × (x < next) × (next ≤ end)
      go d w (removes_one b' k' f a) e = clash (cc (ap (λ (y : Done). y.answer) e))
      go d w (passes_hole f) e =
          let bz : b ≡ base_at G x (walk_to G p 0 x).left = cc (ap (λ (y : Done). y.answer) e) in
          let sz : s ≡ size_at G (walk_to G p 0 x).left = cc (ap (λ (y : Done). y.answer) e) in
          let (r, u, v) = hole_step G Z p x end R l f bz sz n in
          (subst (λ (y : Pool). Removes G p x next 0 0 y) (sym (ap (λ (y : Done). y.after) e)) r, u, v)
      go d w (refuses j) e = clash (cc (ap (λ (y : Done). y.answer) e))

  pub refused_stepped : {j next : ℕ} {q : Pool} → done (refused j) q ≡ unmap_w G p x → next ≡ until_end G x 0 end → Removes G p x next 0 0 q × (x < next) × (next ≤ end)
  refused_stepped {j} {next} {q} e n = go (unmap_w G p x) refl (unmap_comes G p x) e
    where
      go : (d : Done) → unmap_w G p x ≡ d → Unmaps G p x d → done (refused j) q ≡ d → Removes G p x next 0 0 q × (x < next) × (next ≤ end)
      go d w (removes_one b' k' f a) e = clash (cc (ap (λ (y : Done). y.answer) e))
      go d w (passes_hole f) e = clash (cc (ap (λ (y : Done). y.answer) e))
      go d w (refuses i) e =
          let (r, u, v) = page_step G Z p x end R l w n in
          (subst (λ (y : Pool). Removes G p x next 0 0 y) (sym (ap (λ (y : Done). y.after) e)) r, u, v)

  -- where its answers end, no sum wraps
  pub given_low : {b s k t : ℕ} {q : Pool} → done (gave b s k t) q ≡ unmap_w G p x → s ≤ physical
  given_low {b} {s} {k} {t} {q} e = go (unmap_w G p x) (unmap_comes G p x) e
    where
      go : (d : Done) → Unmaps G p x d → done (gave b s k t) q ≡ d → s ≤ physical
      go d (removes_one b' k' f a) e = let sz : s ≡ size_at G (walk_to G p 0 x).left = cc (ap (λ (y : Done). y.answer) e) in omega (arith, size_low)
      go d (passes_hole f) e = clash (cc (ap (λ (y : Done). y.answer) e))
      go d (refuses j) e = clash (cc (ap (λ (y : Done). y.answer) e))

  pub hole_low : {b s : ℕ} {q : Pool} → done (hole b s) q ≡ unmap_w G p x → (b ≤ x) × (s ≤ physical)
  hole_low {b} {s} {q} e = go (unmap_w G p x) (unmap_comes G p x) e
    where
      go : (d : Done) → Unmaps G p x d → done (hole b s) q ≡ d → (b ≤ x) × (s ≤ physical)
      go d (removes_one b' k' f a) e = clash (cc (ap (λ (y : Done). y.answer) e))
      go d (passes_hole f) e =
          let bz : b ≡ base_at G x (walk_to G p 0 x).left = cc (ap (λ (y : Done). y.answer) e) in
          let sz : s ≡ size_at G (walk_to G p 0 x).left = cc (ap (λ (y : Done). y.answer) e) in
          (omega (arith, base_le G x (walk_to G p 0 x).left), omega (arith, size_low))
      go d (refuses j) e = clash (cc (ap (λ (y : Done). y.answer) e))

-- a refusal that is no hole is its number alone
pub says_refused : (r : Refusal) → ((b s : ℕ) → r ≡ R.Hole b s → ⊥) → says_refusal r ≡ refused (number_of r)
says_refused R.Setup n = refl
says_refused R.Size n = refl
says_refused R.Attributes n = refl
says_refused R.Address n = refl
says_refused R.Alignment n = refl
says_refused R.Overlap n = refl
says_refused R.Tables n = refl
says_refused R.Damage n = refl
says_refused (R.Hole b s) n = absurd (n b s refl)
says_refused R.Inside n = refl
says_refused R.Pool n = refl

-- the height that a look met is one of the tree's
pub met_low : (G : Granule) → Sane G → (p : Pool) → good_pool G p ≡ true → (x : ℕ) {frame : Bool} {left : ℕ} {way : List ℕ} → Meets (walk_to G p 0 x) frame left way → left < G.most
met_low G Z p good x K =
    omega (arith, K.left_is, left_low G (area_of p.numbers) p.words 0 (path_of G x) (p.numbers.levels - 1) no_way 0, (good_setup_lem good).numbers.not_more, (good_setup_lem good).numbers.enough, Z.large_below)

-- counts up to one table more
pub counts_more : (G : Granule) (ws C : List ℕ) (t n : ℕ) → t < length C → n ≡ used_in G ws t → ((u : ℕ) → u < t → get_or C u 0 ≡ used_in G ws u)
    → (u : ℕ) → u < t + 1 → get_or (set C t n) u 0 ≡ used_in G ws u
counts_more G ws C t n l e f u m = go (ℕ_discrete u t)
  where
    go : Dec (u ≡ t) → get_or (set C t n) u 0 ≡ used_in G ws u
    go (yes z) = ap (λ (y : ℕ). get_or (set C t n) y 0) z ∙ get_or-set_same C t n 0 l ∙ e ∙ ap (used_in G ws) (sym z)
    go (no z) = get_or-set_other C t u n 0 z ∙ f u (omega arith)
