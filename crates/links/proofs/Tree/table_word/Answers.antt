-- `Tree::table_word` meets its contract: a base up to 2^48 leaves room for the sum.
use Rattle.std.proofs.Common.{◌≡◌, ℕ, ◌+◌, ◌-◌, ◌*◌, ◌^◌, ◌<◌, ◌≤◌, cond, ltb, leb, mul-le-mul, arith, le-ltb, lt-ltb, le-leb}
use borrow.Author.Tests.{lt-leb}
use Rattle.path.specs.Geometry.{Granule, granule_of, page_size, physical}
use Rattle.path.specs.Areas.{area_at}
use Rattle.path.specs.Laws.{granule_sane, page_most, table_first, table_second}
use Rattle.entry.specs.Words.{table_word}
use Rattle.links.proofs.Tree.table_word.Goals as goal

-- the base of its region, and the word where that is up to 2^48
abbrev told : (G : Granule) (b n q m c : ℕ) → ℕ
told G b n q m c = cond (leb (cond (ltb c n) b q) physical) (table_word G (area_at b n q m) c) 0

module _ (G : Granule) (b n q m c : ℕ) where
  first_high : c < n → physical < b → 0 ≡ told G b n q m c
  first_high l h = rw (lt-ltb c n l, lt-leb b physical h)

  first_word : c < n → b ≤ physical → b + page_size G * c + 3 ≡ told G b n q m c
  unfolding table_word
  first_word l h = rw (lt-ltb c n l, le-leb b physical h, table_first G (area_at b n q m) c l)

  second_high : n ≤ c → physical < q → 0 ≡ told G b n q m c
  second_high l h = rw (le-ltb c n l, lt-leb q physical h)

  second_word : n ≤ c → q ≤ physical → q + page_size G * (c - n) + 3 ≡ told G b n q m c
  unfolding table_word
  second_word l h = rw (le-ltb c n l, le-leb q physical h, table_second G (area_at b n q m) c l)

-- the tables before another, of fewer than 2^32, are so few that their bytes can be counted
few_bytes : (number c : ℕ) {p : ℕ} → p ≡ page_size (granule_of number) → c < 2 ^ 32 → p * c ≤ 2 ^ 57
few_bytes number c e l = mul-le-mul {n₂ = 2 ^ 25} {m₂ = 2 ^ 32} (omega (arith, page_most (granule_of number) (granule_sane number))) (omega arith)

pub returns-then-self-gt-PHYSICAL : goal.returns-then-self-gt-PHYSICAL
returns-then-self-gt-PHYSICAL c = let t = c.args.self in first_high (granule_of t.granule) t.base t.tables t.base2 t.tables2 c.args.c (omega arith) (omega arith)

pub overflow_mul-result : goal.overflow_mul-result
overflow_mul-result c = omega (arith, few_bytes _ c.args.c c.page_of.ensures (omega arith))

pub overflow_add-result : goal.overflow_add-result
overflow_add-result c = omega (arith, few_bytes _ c.args.c c.page_of.ensures (omega arith))

pub overflow_add-result-then-c-tables : goal.overflow_add-result-then-c-tables
overflow_add-result-then-c-tables c = omega (arith, few_bytes _ c.args.c c.page_of.ensures (omega arith))

pub returns-then-c-tables : goal.returns-then-c-tables
returns-then-c-tables c = rw c.page_of.ensures (let t = c.args.self in first_word (granule_of t.granule) t.base t.tables t.base2 t.tables2 c.args.c (omega arith) (omega arith))

pub returns-then-self-gt-PHYSICAL-2 : goal.returns-then-self-gt-PHYSICAL-2
returns-then-self-gt-PHYSICAL-2 c = let t = c.args.self in second_high (granule_of t.granule) t.base t.tables t.base2 t.tables2 c.args.c (omega arith) (omega arith)

pub overflow_mul-result-2 : goal.overflow_mul-result-2
overflow_mul-result-2 c = omega (arith, few_bytes _ (c.args.c - c.args.self.tables) c.page_of-2.ensures (omega arith))

pub overflow_add-result-2 : goal.overflow_add-result-2
overflow_add-result-2 c = omega (arith, few_bytes _ (c.args.c - c.args.self.tables) c.page_of-2.ensures (omega arith))

pub overflow_add-result-3 : goal.overflow_add-result-3
overflow_add-result-3 c = omega (arith, few_bytes _ (c.args.c - c.args.self.tables) c.page_of-2.ensures (omega arith))

pub returns : goal.returns
returns c = rw c.page_of-2.ensures (let t = c.args.self in second_word (granule_of t.granule) t.base t.tables t.base2 t.tables2 c.args.c (omega arith) (omega arith))
