-- The flags of saving time in a compiled zone file. A type is one of the file's kinds of local
-- time, with an offset, a flag and a name.
use Rattle.std.specs.Prelude.{◌≡◌, ◌+◌, ◌*◌, ◌≤◌, ◌<◌, ℕ, List, Some, drop, length, slice_get, slice_index}
use Rattle.jiff_tz.specs.TzifReader.{be_u32}

-- the place of the first type's flag, counted from the header of its block, whose times have
-- `time_size` bytes each
abbrev pub first_flag : ℕ → List ℕ → ℕ
first_flag time_size s = 44 + be_u32 s 32 * (time_size + 1) + 4

-- the flag of saving time of each type in the block is 0 or 1
abbrev pub TypesTellSaving : ℕ → List ℕ → Type 0
TypesTellSaving time_size s =
    44 ≤ length s → (i flag : ℕ) → i < be_u32 s 36 → slice_get s (first_flag time_size s + i * 6) ≡ Some flag → flag ≤ 1

-- the length of a block whose times have four bytes each, with its header
abbrev pub end_of_block : List ℕ → ℕ
end_of_block s = 44 + be_u32 s 32 * 5 + (be_u32 s 36 * 6 + be_u32 s 40) + be_u32 s 28 * 8 + be_u32 s 24 + be_u32 s 20

-- The flag of saving time of each type is 0 or 1 in the block with the file's transitions. That is
-- the only one in a file of version 1, and else the second one.
abbrev pub TellSaving : List ℕ → Type 0
TellSaving s = (slice_index s 4 ≡ 0 → TypesTellSaving 4 s) × (¬ (slice_index s 4 ≡ 0) → TypesTellSaving 8 (drop (end_of_block s) s))
