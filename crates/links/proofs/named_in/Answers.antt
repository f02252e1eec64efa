-- `links::named_in` meets its contract: what fails a test is no table's word, and the rest is that of the table.
use Rattle.std.proofs.Common.{◌≡◌, ℕ, ◌+◌, ◌*◌, ◌/◌, ◌%◌, ◌^◌, ◌<◌, ◌≤◌, ◌⊎◌, sym, ◌∙◌, inl, inr, add-zero, mod-eq_of_lt, mul_comm, mul-le-mul, div-add-mod', arith}
use native.Mathlib.Nat.{mul-add-div, div-eq_of_lt, mul-add-mod_self_left}
use Rattle.path.specs.Geometry.{Granule, Sane, granule_of, page_size, physical}
use Rattle.path.specs.Laws.{granule_sane, page_pos, page_least, page_most, level_page}
use Rattle.std.specs.Prelude.{Some}
use Rattle.std.proofs.Common.{ap}
use Rattle.entry.proofs.Laws.{named_none, named_back}
use Rattle.links.specs.TreeLaws.{named_gone, named_there}
use Rattle.links.proofs.named_in.Goals as goal
use Rattle.links.proofs.named_in.Goals.{then-base-gt-PHYSICAL+else-w-base, else-base-gt-PHYSICAL}

-- the difference modulo 2^64 of a word and a base that is at most 2^48 or at most the word
module _ {w P off : ℕ} (low : (P ≤ physical) ⊎ (P ≤ w)) (wide : off < 2 ^ 64) (e : (off + P) % 2 ^ 64 ≡ w) where
  -- is that of a word that is so much above the base, and 3,
  word_off : (m : ℕ) → m < 2 ^ 57 → w ≡ P + m + 3 → off ≡ m + 3
  word_off m few z = go low
    where
      go : (P ≤ physical) ⊎ (P ≤ w) → off ≡ m + 3
      go (inl l) = omega arith
      go (inr l) = omega arith

  off_word : (m : ℕ) → m < 2 ^ 57 → off ≡ m + 3 → w ≡ P + m + 3
  off_word m few z = go low
    where
      go : (P ≤ physical) ⊎ (P ≤ w) → w ≡ P + m + 3
      go (inl l) = omega arith
      go (inr l) = omega arith

  module _ {G : Granule} (S : Sane G) {n : ℕ} (few : n < 2 ^ 16) where
    bytes : {k : ℕ} → k < n → page_size G * k < 2 ^ 57
    bytes {k} l = omega (arith, mul-le-mul {m₁ = k} {n₂ = 2 ^ 25} {m₂ = 2 ^ 16} (page_most G S) (omega arith))

    -- and where it is a table's, the rest within a page is 3 and the pages are the table's number
    table_rest : {k : ℕ} → k < n → w ≡ P + page_size G * k + 3 → off % page_size G ≡ 3
    table_rest {k} l z =
        rw (word_off (page_size G * k) (bytes l) z)
        (mul-add-mod_self_left (page_size G) k 3 ∙ mod-eq_of_lt (omega (arith, page_least G S)))

    table_pages : {k : ℕ} → k < n → w ≡ P + page_size G * k + 3 → off / page_size G ≡ k
    table_pages {k} l z =
        rw (word_off (page_size G * k) (bytes l) z, mul-add-div (page_pos G) k 3, div-eq_of_lt {n = 3} {m = page_size G} (omega (arith, page_least G S)))
        (add-zero k)

    rest_table : off % page_size G ≡ 3 → off / page_size G < n → w ≡ P + page_size G * (off / page_size G) + 3
    rest_table z l =
        off_word (page_size G * (off / page_size G)) (bytes l)
        (omega (arith, div-add-mod' off (page_size G), mul_comm (page_size G) (off / page_size G)))

pub returns-then-w-base : goal.returns-then-w-base
returns-then-w-base c = sym (named_gone _ _ _ _ (named_none _ _ _ _ (λ k lt e. omega arith)))

pub returns-then-rest_at-ne3 : goal.returns-then-rest_at-ne3
returns-then-rest_at-ne3 c =
    let a = c.args in
    let S = granule_sane a.granule in
    let low : (a.base ≤ physical) ⊎ (a.base ≤ a.w) = elim c.if-base-gt-PHYSICAL.branch [ then-base-gt-PHYSICAL+else-w-base w ↦ inr (omega arith) | else-base-gt-PHYSICAL w ↦ inl (omega arith) ] in
    let r = c.rest_at.ensures ∙ level_page (granule_of a.granule) S _ in
    sym
    (named_gone _ _ _ _
    (named_none _ _ _ _
    (λ k lt z. c.if-rest_at-ne3.true (r ∙ table_rest low (omega arith) c.wrapping_sub_u64-off.ensures.value S (omega arith) lt z))))

pub returns-then-c-tables : goal.returns-then-c-tables
returns-then-c-tables c =
    let a = c.args in
    let S = granule_sane a.granule in
    let low : (a.base ≤ physical) ⊎ (a.base ≤ a.w) = elim c.if-base-gt-PHYSICAL.branch [ then-base-gt-PHYSICAL+else-w-base w ↦ inr (omega arith) | else-base-gt-PHYSICAL w ↦ inl (omega arith) ] in
    sym
    (named_gone _ _ _ _
    (named_none _ _ _ _
    (λ k lt z. omega (arith, c.pages_in-c.ensures, table_pages low (omega arith) c.wrapping_sub_u64-off.ensures.value S (omega arith) lt z))))

pub returns : goal.returns
returns c =
    let a = c.args in
    let S = granule_sane a.granule in
    let low : (a.base ≤ physical) ⊎ (a.base ≤ a.w) = elim c.if-base-gt-PHYSICAL.branch [ then-base-gt-PHYSICAL+else-w-base w ↦ inr (omega arith) | else-base-gt-PHYSICAL w ↦ inl (omega arith) ] in
    let r = c.rest_at.ensures ∙ level_page (granule_of a.granule) S _ in
    let q = c.pages_in-c.ensures in
    let l : c.wrapping_sub_u64-off.result / page_size (granule_of a.granule) < a.tables = omega arith in
    ap Some q
    ∙ sym
    (named_there _ a.base a.tables a.w
    (named_back _ a.base a.tables _ a.w l
    (rest_table low (omega arith) c.wrapping_sub_u64-off.ensures.value S (omega arith) (sym r ∙ c.if-rest_at-ne3.false) l))
    l)
