-- The note of a run: the instant up to which everything due was run, and the entries that this
-- holds for.
use Rattle.std.specs.Prelude.{◌≡◌, ◌++◌, ℕ, ◌+◌, ℤ, pos, neg_ℤ, Bool, ◌-◌, ◌==◌, int_lt, nat_lt, List, [], ◌∷◌, codes, if◌then◌else◌, map, unwrap_or, All, Contains}
use Rattle.std.specs.BTreeMap.{BTreeMap, get_by}
use Rattle.std.specs.Cmp.Lexicographic.{slice_cmp}
use Rattle.std.specs.Fmt.{signed_decimal}
use Rattle.std.specs.Int.{int_div_euclid}
use Rattle.std.specs.List.{flat_map}
use Rattle.std.specs.Ordering.{nat_cmp}
use Rattle.std.specs.Str.{bytes_eq}
use Rattle.jiff_core.specs.Timestamp.{IsTimestampNanos, nanos_of_seconds}
use Rattle.jiff_core.specs.declared.Timestamp.{Timestamp}
use Rattle.cron_tab_lines.specs.Files.{without_feed}
use Rattle.cron_tab_lines.specs.declared.zones.NamedZone.{NamedZone}
use Rattle.cron_tab_tasks.specs.Tasks.{Task}
use Rattle.cron_tab_running.specs.declared.noted.Noted as code
use denote.Ref.{Bor}

-- A note: all fires of these entries up to and with `until`, in nanoseconds since 1970, were run.
pub record Noted : Type 0 where
  pub until : ℤ
  pub entries : List (List ℕ)

abbrev pub noted_view : code.Noted → Noted
noted_view n = record { until = n.until.nanosecond; entries = map (λ e. e.items) n.entries.items }

-- the least instant of a `Timestamp`, in nanoseconds since 1970: -9999-01-02T01:59:59Z
abbrev pub least_instant : ℤ
least_instant = neg_ℤ (pos 377_705_023_201_000_000_000)

-- the name of the zone with this number, by the first pair that has it; an empty text if none has
abbrev pub zone_name : List NamedZone → ℕ → List ℕ
zone_name [] zone = []
zone_name (n ∷ ns) zone = if n.zone == zone then n.name.now else zone_name ns zone

-- the key of an entry: its zone as `CRON_TZ` names it, a tab, and its line
abbrev pub entry_of : List NamedZone → Task → List ℕ
entry_of names task = zone_name names task.zone ++ 9 ∷ without_feed task.line.bytes

-- how many times an entry is in a list
abbrev pub count_of : List ℕ → List (List ℕ) → ℕ
count_of e [] = 0
count_of e (f ∷ fs) = if bytes_eq f e then 1 + count_of e fs else count_of e fs

-- Whether an entry that comes after those of `before` is noted. It is if it is noted more often
-- than `before` has it, so that of equal entries the first ones are.
abbrev pub is_noted : List (List ℕ) → List (List ℕ) → List ℕ → Bool
is_noted noted before e = nat_lt (count_of e before) (count_of e noted)

-- the count that a map has for an entry, or 0 if it has none
abbrev pub left_of : BTreeMap (Bor (List ℕ)) ℕ → List ℕ → ℕ
left_of m e = unwrap_or (get_by (λ k. slice_cmp nat_cmp e k.now) m) 0

-- The count of each entry is how often it is noted, less how often it is in `before`.
abbrev pub AreLeft : List (List ℕ) → List (List ℕ) → BTreeMap (Bor (List ℕ)) ℕ → Type 0
AreLeft noted before m = (e : List ℕ) → left_of m e ≡ count_of e noted - count_of e before

-- the text of a note: a head with the version, the instant in whole seconds, a line for each entry,
-- and a line that ends it
abbrev pub note_text : Noted → List ℕ
note_text n =
    codes "crontool state 1\n" ++ (signed_decimal (int_div_euclid n.until (pos 1_000_000_000)) ++ 10 ∷ (flat_map (λ e. e ++ 10 ∷ []) n.entries ++ codes ".\n"))

-- an entry that can be noted: it has a tab and no line feed, as `entry_of` makes it of a zone's name and a line
abbrev pub IsEntry : List ℕ → Type 0
IsEntry e = Contains e 9 × ¬ Contains e 10

-- a note that can be written: its instant is one that `Timestamp` has, and its entries can be noted
abbrev pub CanBeNoted : Noted → Type 0
CanBeNoted n = IsTimestampNanos n.until × All IsEntry n.entries

-- The bytes are the text of the note n, and n can be written.
abbrev pub IsNote : List ℕ → Noted → Type 0
IsNote bytes n = CanBeNoted n × (note_text n ≡ bytes)

-- the note that is read from the text of one: its instant is cut down to the whole second
abbrev pub in_seconds : Noted → Noted
in_seconds n = record { until = nanos_of_seconds (int_div_euclid n.until (pos 1_000_000_000)); entries = n.entries }

abbrev pub later : Timestamp → Timestamp → Timestamp
later a b = if int_lt a.nanosecond b.nanosecond then b else a
