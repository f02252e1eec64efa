-- What the walk of the code answers on a pool that holds a ledger is what the ledger says.
use Rattle.std.specs.Prelude.{ℕ, ◌+◌, ◌-◌, ◌*◌, ◌/◌, ◌^◌, ◌≤◌, ◌<◌, ◌≡◌, ◌⊎◌, List, [], ◌++◌, length, get_or}
use Rattle.std.proofs.Common.{sym, ap, ◌∙◌, inl, inr, mul-add, mul_assoc, arith, pow-add, le-leb, lt-ltb, le-ltb}
use Rattle.std.proofs.Math.Decide.{dec_lt}
use Rattle.path.specs.Geometry.{Granule, Sane, granule_of, page_size, entries, physical, good_levels}
use Rattle.path.specs.Areas.{Area, area_of, table_at, GoodArea}
use Rattle.path.specs.Laws.{granule_sane, in_table}
use Rattle.path.specs.declared.Setup.{Setup}
use Rattle.model.specs.Answers.{pool}
use Rattle.model.specs.Ledger.{Ledger}
use Rattle.demand.specs.Holds.{Holds}
use Rattle.demand.specs.Demand3.{audit_c}
use Rattle.hardware.specs.Machine.{Stands, told}
use Rattle.hardware.proofs.Theorem.{promise_of}
use Rattle.armwalk.specs.Runs.{memory_of, stage2_of}
use Rattle.armwalk.specs.Laws.{within_yes, within_not, memory_first, memory_second}

-- the words of tables in good regions stand in the walk's memory
stands : (G : Granule) → Sane G → (area : Area) (first second : List ℕ) → GoodArea G area → length first ≡ entries G * area.tables
    → Stands G area (first ++ second) (memory_of area.base first area.base₂ second)
unfolding table_at
stands G S area first second placed long t i l m = go (dec_lt t area.tables)
  where
    -- a table's bytes are eight for each of its words
    bytes : (n : ℕ) → page_size G * n ≡ 8 * (entries G * n)
    bytes n =
        let e : G.page ≡ 3 + G.index = omega arith in
        let q : page_size G ≡ 8 * entries G = ap (λ (x : ℕ). 2 ^ x) e ∙ pow-add 2 3 G.index in
        ap (λ (x : ℕ). x * n) q ∙ mul_assoc 8 (entries G) n

    go : Dec (t < area.tables) → memory_of area.base first area.base₂ second (table_at G area t + 8 * i) ≡ get_or (first ++ second) (entries G * t + i) 0
    go (yes h) =
        let at = area.base + page_size G * t + 8 * i in
        let e : (at - area.base) / 8 ≡ entries G * t + i = omega (arith, bytes t) in
        rw (lt-ltb t area.tables h)
        (sym (memory_first area.base first area.base₂ second at (sym (within_yes area.base (length first) at (omega arith)) ∙ lt-ltb ((at - area.base) / 8) (length first) (omega (arith, e, in_table (entries G) h m)))) ∙ ap (λ (j : ℕ). get_or (first ++ second) j 0) e)
    go (no h) =
        let at = area.base₂ + page_size G * (t - area.tables) + 8 * i in
        let z : t ≡ area.tables + (t - area.tables) = omega arith in
        let e : length first + (at - area.base₂) / 8 ≡ entries G * t + i =
        omega (arith, bytes (t - area.tables), ap (λ (x : ℕ). entries G * x) z, mul-add (entries G) area.tables (t - area.tables)) in
        rw (le-ltb t area.tables (omega arith))
        (sym (memory_second area.base first area.base₂ second at (within_not area.base (length first) at (past placed.apart)) (omega arith)) ∙ ap (λ (j : ℕ). get_or (first ++ second) j 0) e)
      where
        past : (area.base + page_size G * area.tables ≤ area.base₂) ⊎ (area.base₂ + page_size G * area.tables₂ ≤ area.base)
            → area.base ≤ area.base₂ + page_size G * (t - area.tables) + 8 * i
            → length first ≤ (area.base₂ + page_size G * (t - area.tables) + 8 * i - area.base) / 8
        past (inl a) b = omega (arith, bytes area.tables)
        past (inr a) b =
            let k : t - area.tables < area.tables₂ = omega arith in
            absurd (omega (arith, bytes (t - area.tables), bytes area.tables₂, in_table (entries G) k m))

pub walk_told :
    (s : Setup) (first second list : List ℕ) {A : Ledger} → Holds (granule_of s.granule) (pool s (first ++ second) (length first) list) A → (a : ℕ)
    → stage2_of (granule_of s.granule) first second s.base s.base2 s.levels a ≡ told A.live a
unfolding good_levels
walk_told s first second list {A} H a =
    let G = granule_of s.granule in
    let N = H.good.numbers in
    rw (le-leb G.fewest s.levels N.enough, le-leb s.levels G.most N.not_more, le-leb s.base physical (omega (arith, N.placed.fits)))
    ((promise_of s.granule (pool s (first ++ second) (length first) list) A H [] audit_c).rest (memory_of s.base first s.base2 second)
    (stands G (granule_sane s.granule) (area_of s) first second N.placed N.cut_is) a)
