-- What the walk of the code answers: the hardware's translation, over a memory that holds a pool's two runs of words and is 0 elsewhere.
use Rattle.std.specs.Prelude.{ℕ, ◌-◌, ◌/◌, Bool, cond, ◌&&◌, List, ltb, leb, eqb, length, get_or, Some, None}
use Rattle.std.specs.Prelude as code
use Rattle.std.proofs.Math.Option.{Option, some, none}
use Rattle.path.specs.Geometry.{Granule, physical, good_levels}
use Rattle.hardware.specs.Machine.{Translation, read_bit, write_bit, never_high, never_low, kind_of, mem_high, mem_low, shared_of, share_bits, stage2}
use Rattle.hardware.specs.Machine as machine
use Rattle.armwalk.specs.declared.Step.{Step}
use Rattle.armwalk.specs.declared.Step.TheVariants as S
use Rattle.armwalk.specs.declared.Hit.{Hit}

-- whether an address is that of one of so many words from a base on
unfoldable pub within : ℕ → ℕ → ℕ → Bool
within base words at = leb base at && ltb ((at - base) / 8) words

-- the memory with these words from an address on, those from a second address on, and 0 elsewhere
unfoldable pub memory_of : ℕ → List ℕ → ℕ → List ℕ → ℕ → ℕ
memory_of base first base₂ second at =
    cond (within base (length first) at) (get_or first ((at - base) / 8) 0)
    (cond (leb base₂ at) (get_or second ((at - base₂) / 8) 0) 0)

-- an output address, and what the word of a page or block says of it
abbrev pub by_word : ℕ → ℕ → Translation
by_word a w = record {
  address = a;
  readable = eqb (read_bit w) 1;
  writable = eqb (write_bit w) 1;
  runs_at_el1 = eqb (never_high w) (never_low w);
  runs_at_el0 = eqb (never_high w) 0;
  kind = kind_of (mem_high w) (mem_low w);
  shared = shared_of (kind_of (mem_high w) (mem_low w)) (share_bits w);
}

-- the code's answers
abbrev pub says_step : code.Option Step → machine.Step
says_step None = machine.fault
says_step (Some (S.Leaf h)) = machine.hit (by_word h.address h.word)
says_step (Some (S.Next t)) = machine.next t

abbrev pub says_seen : code.Option Hit → Option Translation
says_seen None = none
says_seen (Some h) = some (by_word h.address h.word)

-- the translation, for levels that a tree may have and a root that stands below 2^48
abbrev pub stage2_of : Granule → List ℕ → List ℕ → ℕ → ℕ → ℕ → ℕ → Option Translation
stage2_of G first second base base₂ levels a =
    cond (good_levels G levels && leb base physical) (stage2 G levels base (λ _. memory_of base first base₂ second) a) none
