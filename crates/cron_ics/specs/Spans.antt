-- Events that last from one instant to another.
use Rattle.std.specs.Prelude.{◌≡◌, ◌<◌, ◌<ℤ◌, ◌^◌, ℕ, ℤ, nat_abs, true, List, [], ◌∷◌, ◌++◌, codes}
use Rattle.std.specs.Fmt.{signed_decimal}
use Rattle.std.specs.Str.{IsUtf8}
use Rattle.jiff_core.specs.DateTime.{civil_nanos}
use Rattle.jiff_core.specs.Timestamp.{IsTimestampNanos, nanos_of_seconds}
use Rattle.jiff_core.specs.declared.civil.datetime.DateTime.{DateTime}
use Rattle.cron_ics.specs.Domains.{is_domain}
use Rattle.cron_ics.specs.Events.{digest_text, folded_lines, summary_line}
use Rattle.cron_ics.specs.Reading.{AreLines}
use Rattle.cron_ics.specs.Stamps.{stamp_text}
use Rattle.cron_ics.specs.declared.spans.Series.{Series}

-- The line of a span's UID: the digest of its series' text, the two instants in seconds since
-- 1970-01-01T00:00:00Z, and the domain of the calendar's writer.
abbrev pub span_uid : List ℕ → ℤ → ℤ → List ℕ → List ℕ
span_uid digest from until domain =
    codes "UID:" ++ digest ++ codes "-" ++ signed_decimal from ++ codes "-" ++ signed_decimal until ++ codes "@" ++ domain

-- the lines of a span's times of UTC: when it is written, its start and its end
abbrev pub end_lines : DateTime → DateTime → DateTime → List (List ℕ)
end_lines stamp start end =
    (codes "DTSTAMP:" ++ stamp_text stamp) ∷ (codes "DTSTART:" ++ stamp_text start) ∷ (codes "DTEND:" ++ stamp_text end) ∷ []

-- the lines of an event with this UID and these times; it leaves its time free for other events
abbrev pub span_lines : List ℕ → List (List ℕ) → List ℕ → List (List ℕ)
span_lines uid times summary =
    (codes "BEGIN:VEVENT" ∷ uid ∷ []) ++ (times ++ summary ∷ codes "TRANSP:TRANSPARENT" ∷ codes "END:VEVENT" ∷ [])

abbrev pub span_text : Series → List ℕ → ℤ → ℤ → DateTime → DateTime → DateTime → List ℕ
span_text s summary from until stamp start end =
    folded_lines
    (span_lines (span_uid (digest_text s.text.now) from until s.domain.text.now) (end_lines stamp start end) (summary_line summary))

-- a span may last from the one second to the other: a `Timestamp` names both, and the second is later
abbrev pub AreEnds : ℤ → ℤ → Type 0
AreEnds from until = IsTimestampNanos (nanos_of_seconds from) × IsTimestampNanos (nanos_of_seconds until) × (from <ℤ until)

-- The text has the event of a span of the series. It begins at the second `from` and ends at
-- `until`, and its three times are those that UTC shows.
abbrev pub IsSpan : Series → List ℕ → ℤ → ℤ → List ℕ → Type 0
IsSpan s summary from until text =
    (stamp : DateTime) × (start : DateTime) × (end : DateTime) × (civil_nanos stamp ≡ s.written.nanosecond)
    × (civil_nanos start ≡ nanos_of_seconds from) × (civil_nanos end ≡ nanos_of_seconds until)
    × (text ≡ span_text s summary from until stamp start end)

-- ---- what UIDs tell

-- two spans have the same digest of their series, the same ends and the same domain
pub record IsOneSpan (text other : List ℕ) (from first until last : ℤ) (domain place : List ℕ) : Type 0 where
  pub same_digest : digest_text text ≡ digest_text other
  pub same_from : from ≡ first
  pub same_until : until ≡ last
  pub same_domain : domain ≡ place

-- two spans with the same UID share the digest of their series, both ends and the domain
abbrev pub UidsTellSpansApart : Type 0
UidsTellSpansApart =
    (text other : List ℕ) (from first until last : ℤ) (domain place : List ℕ)
    → nat_abs from < 2 ^ 63
    → nat_abs first < 2 ^ 63
    → nat_abs until < 2 ^ 63
    → nat_abs last < 2 ^ 63
    → span_uid (digest_text text) from until domain ≡ span_uid (digest_text other) first last place
    → IsOneSpan text other from first until last domain place

-- ---- what a reader finds

abbrev pub AreTexts : List (List ℕ) → Type 0
AreTexts [] = Unit {0}
AreTexts (line ∷ lines) = IsUtf8 line × AreTexts lines

-- each line of a span is UTF-8, begins with no blank and has no carriage return: so it is folded
-- into short pieces, and reads back
abbrev pub SpansAreLines : Type 0
SpansAreLines =
    (text domain summary : List ℕ) (from until : ℤ) (stamp start end : DateTime)
    → is_domain domain ≡ true
    → nat_abs from < 2 ^ 63
    → nat_abs until < 2 ^ 63
    → AreLines (span_lines (span_uid (digest_text text) from until domain) (end_lines stamp start end) (summary_line summary))
    × AreTexts (span_lines (span_uid (digest_text text) from until domain) (end_lines stamp start end) (summary_line summary))
