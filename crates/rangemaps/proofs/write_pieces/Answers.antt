-- `rangemaps::write_pieces`: what is left to write leaves what the range leaves.
use Prim.Native.Nat.{ℕ, ◌+◌, ◌-◌, ◌*◌, ◌≤◌, ◌<◌}
use mathlib.Core.Path.{◌≡◌, refl, sym, ap, ◌∙◌, subst}
use mathlib.Core.Logic.{◌≢◌}
use mathlib.Core.List.{◌++◌}
use native.Mathlib.Omega.{arith}
use lib.ListN.{length}
use Rattle.path.specs.Geometry.{granule_of, physical}
use Rattle.path.specs.Laws.{granule_sane}
use Rattle.path.specs.declared.Setup.{Setup}
use Rattle.model.specs.declared.Mapped.{Mapped}
use Rattle.model.specs.Answers.{pool, setup_after}
use Rattle.rangemaps.proofs.Writing.{Written, written_first, written_ends, Firsted, row_fits, row_firsted, row_one, row_asks, row_rest}
use Rattle.rangemaps.proofs.write_pieces.Goals as goal
use Rattle.rangemaps.proofs.write_pieces.Goals.{in-Ok, in_default, then-n-gt1, else-n-gt1, Joined-map, Joined-n-gt1}

some : {left : ℕ} → 0 < left → left ≢ 0
some h z = omega arith

-- the row in what is left
fits : (c : Joined-map) → let l = c.loop-left in
    let b = c.stretch-n.result * c.size_at-size.result in
    (b ≤ l.left) × ((0 < c.stretch-n.result) × ((0 < b) × ((c.size_at-size.result ≤ l.left) × ((l.x + l.left ≤ physical) × (l.y + l.left ≤ physical)))))
fits c = row_fits c.loop-left.invariant.0 (some c.loop-left-test.true) refl c.piece_at-h.ensures c.stretch-n.ensures c.size_at-size.ensures

-- its first piece is mapped, which leaves this setup
now_is : (c : Joined-map) → c.match-map.now ≡ setup_after (λ (m : Mapped). m.setup) c.loop-left.now c.map.result
now_is c = elim c.match-map.branch [
  | in-Ok way ↦ way.now-is ∙ sym (ap (setup_after (λ (m : Mapped). m.setup) c.loop-left.now) way.in-Ok.is)
  | in_default way ↦ way.now-is ∙ sym (ap (setup_after (λ (m : Mapped). m.setup) c.loop-left.now) way.in_default.is)
]

first : (c : Joined-map) → Firsted c.loop-left.invariant.0 (some c.loop-left-test.true) c.match-map.now (c.map.new.words ++ c.map.new.second) (length c.map.new.words)
first c =
    subst (λ (t : Setup). Firsted c.loop-left.invariant.0 (some c.loop-left-test.true) t (c.map.new.words ++ c.map.new.second) (length c.map.new.words)) (sym (now_is c))
    (row_firsted c.loop-left.invariant.0 (some c.loop-left-test.true) refl c.piece_at-h.ensures c.stretch-n.ensures c.size_at-size.ensures c.map.ensures)

-- then the others are written, if there are any
joined : (c : Joined-n-gt1) → Firsted c.loop-left.invariant.0 (some c.loop-left-test.true) c.match-map.now (c.map.new.words ++ c.map.new.second) (length c.map.new.words)
    → let a = c.args in let l = c.loop-left in
    let b = c.stretch-n.result * c.size_at-size.result in
    Written (granule_of a.s.granule) (granule_sane a.s.granule) (pool a.s (a.words.now ++ a.second.now) (length a.words.now) a.list.now) a.address a.frame a.len a.attributes
    c.match-map.now (c.if-n-gt1.words ++ c.if-n-gt1.second) (length c.map.new.words) (l.x + b) (l.y + b) (l.left - b)
    × ((length c.if-n-gt1.words ≡ length c.map.new.words) × (length c.if-n-gt1.second ≡ length c.map.new.second))
joined c begun =
    let l = c.loop-left in
    let u = c.piece_at-h.ensures in
    let v = c.stretch-n.ensures in
    let e = c.size_at-size.ensures in
    elim c.if-n-gt1.branch [
      | then-n-gt1 way ↦ (row_rest l.invariant.0 (some c.loop-left-test.true) refl u v e begun way.if-n-gt1.true ((λ i. way.words-is i ++ way.second-is i) ∙ way.write_row.ensures), (ap length way.words-is ∙ way.write_row.auto.words, ap length way.second-is ∙ way.write_row.auto.second))
      | else-n-gt1 way ↦ (row_one l.invariant.0 (some c.loop-left-test.true) refl u v e begun (λ i. way.words-is i ++ way.second-is i) way.if-n-gt1.false, (ap length way.words-is, ap length way.second-is))
    ]

pub loop-left-init : goal.loop-left-init
loop-left-init c =
    let a = c.args in (
      written_first (granule_of a.s.granule) (granule_sane a.s.granule) (pool a.s (a.words.now ++ a.second.now) (length a.words.now) a.list.now) a.address a.frame a.len a.attributes c.requires.0 c.requires.1,
      (refl, refl),
    )

pub overflow_add-x : goal.overflow_add-x
overflow_add-x c = omega (arith, fits (goal.at.overflow_add-x c).Joined-map)

pub overflow_add-y : goal.overflow_add-y
overflow_add-y c = omega (arith, fits (goal.at.overflow_add-y c).Joined-map)

pub write_row-requires : goal.write_row-requires
write_row-requires c = row_asks c.loop-left.invariant.0 (some c.loop-left-test.true) refl c.piece_at-h.ensures c.stretch-n.ensures c.size_at-size.ensures (first (goal.at.write_row-requires c).Joined-map) c.if-n-gt1.true

pub overflow_mul-bytes : goal.overflow_mul-bytes
overflow_mul-bytes c = omega (arith, fits (goal.at.overflow_mul-bytes c).Joined-map)

pub overflow_add-x-in-loop-left : goal.overflow_add-x-in-loop-left
overflow_add-x-in-loop-left c = omega (arith, fits (goal.at.overflow_add-x-in-loop-left c).Joined-map)

pub overflow_add-y-in-loop-left : goal.overflow_add-y-in-loop-left
overflow_add-y-in-loop-left c = omega (arith, fits (goal.at.overflow_add-y-in-loop-left c).Joined-map)

pub overflow_sub-left : goal.overflow_sub-left
overflow_sub-left c = omega (arith, fits (goal.at.overflow_sub-left c).Joined-map)

pub loop-left-smaller : goal.loop-left-smaller
loop-left-smaller c = omega (arith, fits (goal.at.loop-left-smaller c).Joined-map)

pub loop-left-preserved : goal.loop-left-preserved
loop-left-preserved c =
    let a = c.args in
    let l = c.loop-left in
    let b = c.stretch-n.result * c.size_at-size.result in
    let J = joined (goal.at.loop-left-preserved c).Joined-n-gt1 (first (goal.at.loop-left-preserved c).Joined-map) in (
      subst (λ (n : ℕ). Written (granule_of a.s.granule) (granule_sane a.s.granule) (pool a.s (a.words.now ++ a.second.now) (length a.words.now) a.list.now) a.address a.frame a.len a.attributes
          c.match-map.now (c.if-n-gt1.words ++ c.if-n-gt1.second) n (l.x + b) (l.y + b) (l.left - b)) (sym J.1.0) J.0,
      (J.1.0 ∙ c.map.auto.words ∙ l.invariant.1.0, J.1.1 ∙ c.map.auto.second ∙ l.invariant.1.1),
    )

pub returns : goal.returns
returns c = written_ends c.loop-left.invariant.0 (omega (arith, c.loop-left-test.false))
