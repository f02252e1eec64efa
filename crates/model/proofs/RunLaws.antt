-- Where a table's words are in the two lent runs: those of the numbers below n in the first, those of the others in the second. Reading, writing and
-- clearing the words put together is doing it in the one run.
use Rattle.std.specs.Prelude.{ℕ, ◌+◌, ◌-◌, ◌*◌, ◌≤◌, ◌<◌, ◌≡◌, List, ◌++◌, length, get_or, set}
use Rattle.std.proofs.Common.{ap, ◌∙◌, mul-add, mul-le-mul_left, arith}
use Rattle.laws.specs.Lists.{part, zeroed}
use Rattle.laws.specs.ListLaws.{get_d_first, get_d_later, part_first, part_later, set_first, set_later, zeroed_first, zeroed_later}
use Rattle.path.specs.Geometry.{Granule, entries}
use Rattle.path.specs.Laws.{table_ends, in_table}
use Rattle.model.specs.Walk.{slot}
use Rattle.model.specs.Audit.{table_words}
use Rattle.model.specs.Sound.{word_at}

module _ (G : Granule) (first second : List ℕ) (n : ℕ) (long : length first ≡ entries G * n) where
  -- a table past the first run
  past : (t i : ℕ) → n ≤ t → length first ≤ slot G t i
  past t i l = omega (arith, long, mul-le-mul_left (entries G) l)

  off : (t i : ℕ) → n ≤ t → slot G t i - length first ≡ slot G (t - n) i
  off t i l = omega (arith, long, split (t - n) (omega arith))
    where
      split : (d : ℕ) → n + d ≡ t → entries G * t ≡ entries G * n + entries G * d
      split d e = rw (← e) (mul-add (entries G) n d)

  pub word_first : (t i : ℕ) → t < n → i < entries G → word_at G (first ++ second) t i ≡ word_at G first t i
  word_first t i l b = get_d_first first second (slot G t i) (omega (arith, long, in_table (entries G) l b))

  pub word_second : (t i : ℕ) → n ≤ t → word_at G (first ++ second) t i ≡ word_at G second (t - n) i
  word_second t i l = get_d_later first second (slot G t i) (past t i l) ∙ ap (λ (x : ℕ). get_or second x 0) (off t i l)

  pub words_first : (t : ℕ) → t < n → table_words G (first ++ second) t ≡ table_words G first t
  words_first t l = part_first first second (slot G t 0) (entries G) (omega (arith, long, table_ends (entries G) l))

  pub words_second : (t : ℕ) → n ≤ t → table_words G (first ++ second) t ≡ table_words G second (t - n)
  words_second t l = part_later first second (slot G t 0) (entries G) (past t 0 l) ∙ ap (λ (x : ℕ). part second x (entries G)) (off t 0 l)

  pub store_first : (t i x : ℕ) → t < n → i < entries G → set (first ++ second) (slot G t i) x ≡ set first (slot G t i) x ++ second
  store_first t i x l b = set_first first second (slot G t i) x (omega (arith, long, in_table (entries G) l b))

  pub store_second : (t i x : ℕ) → n ≤ t → set (first ++ second) (slot G t i) x ≡ first ++ set second (slot G (t - n) i) x
  store_second t i x l = set_later first second (slot G t i) x (past t i l) ∙ ap (λ (y : ℕ). first ++ set second y x) (off t i l)

  pub wipe_first : (t : ℕ) → t < n → zeroed (first ++ second) (slot G t 0) (entries G) ≡ zeroed first (slot G t 0) (entries G) ++ second
  wipe_first t l = zeroed_first first second (slot G t 0) (entries G) (omega (arith, long, table_ends (entries G) l))

  pub wipe_second : (t : ℕ) → n ≤ t → zeroed (first ++ second) (slot G t 0) (entries G) ≡ first ++ zeroed second (slot G (t - n) 0) (entries G)
  wipe_second t l = zeroed_later first second (slot G t 0) (entries G) (past t 0 l) ∙ ap (λ (y : ℕ). first ++ zeroed second y (entries G)) (off t 0 l)
