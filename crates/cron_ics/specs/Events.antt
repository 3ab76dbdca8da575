-- The lines of an event.
use Rattle.std.specs.Prelude.{ℕ, List, [], ◌∷◌, ◌++◌, codes, count_by, string_bytes, take}
use Rattle.std.specs.Fmt.{decimal, signed_decimal}
use Rattle.std.specs.List.{flat_map}
use Rattle.std.specs.Str.{bytes_eq}
use Rattle.std.specs.Str.Lossy.{utf8_lossy}
use Rattle.hex.specs.Hex.{encode_lower}
use Rattle.sha2.specs.Sha256.{sha256}
use Rattle.cron_ics.specs.Folding.{folded}
use Rattle.cron_ics.specs.Stamps.{stamp_text}
use Rattle.cron_ics.specs.Texts.{escaped, shown}
use Rattle.cron_ics.specs.declared.entry.Entry.{Entry}
use Rattle.cron_ics.specs.declared.event.Heading.{Heading}
use Rattle.cron_ics.specs.declared.fires.Fire.{Fire}
use Rattle.jiff_core.specs.declared.civil.datetime.DateTime.{DateTime}

-- the digest of a text: the first 16 bytes of its SHA-256, as 32 hexadecimal digits
abbrev pub digest_text : List ℕ → List ℕ
digest_text text = encode_lower (take 16 (sha256 text))

-- how many of the entries have this text
abbrev pub copies : List ℕ → List Entry → ℕ
copies text es = count_by (λ e. bytes_eq e.text.now text) es

-- The line of an event's UID: the digest of its entry's text, and how many entries before it have
-- the same text. Then come the fire's instant, the civil second that matches, and the domain of the
-- calendar's writer.
abbrev pub uid_line : List ℕ → ℕ → Fire → List ℕ → List ℕ
uid_line digest copy f domain =
    codes "UID:" ++ digest ++ codes "-" ++ decimal copy ++ codes "-" ++ signed_decimal f.second ++ codes "-" ++ decimal f.civil ++ codes "@" ++ domain

-- the line of a summary: U+FFFD replaces what isn't UTF-8, and control characters
abbrev pub summary_line : List ℕ → List ℕ
summary_line text = codes "SUMMARY:" ++ escaped (shown (utf8_lossy text))

-- what the events of an entry share: `stamp` is the time of UTC when they are written, and each
-- lasts `minutes`
pub record Shared : Type 0 where
  pub digest : List ℕ
  pub copy : ℕ
  pub domain : List ℕ
  pub stamp : DateTime
  pub minutes : ℕ
  pub summary : List ℕ

abbrev pub time_lines : DateTime → ℕ → Fire → List (List ℕ)
time_lines stamp minutes f =
    (codes "DTSTAMP:" ++ stamp_text stamp) ∷ (codes "DTSTART:" ++ stamp_text f.utc) ∷ (codes "DURATION:PT" ++ decimal minutes ++ codes "M") ∷ []

-- the lines of an event; it lasts some minutes, and leaves the time free for other events
abbrev pub event_lines : Shared → Fire → List (List ℕ)
event_lines s f =
    (codes "BEGIN:VEVENT" ∷ uid_line s.digest s.copy f s.domain ∷ [])
    ++ (time_lines s.stamp s.minutes f ++ s.summary ∷ codes "TRANSP:TRANSPARENT" ∷ codes "END:VEVENT" ∷ [])

abbrev pub folded_lines : List (List ℕ) → List ℕ
folded_lines lines = flat_map folded lines

abbrev pub event_text : Shared → Fire → List ℕ
event_text s f = folded_lines (event_lines s f)

-- what the events of an entry share, as the program holds it
abbrev pub shared : Heading → Shared
shared h = record {
  digest = string_bytes h.digest;
  copy = h.copy;
  domain = h.domain.text.now;
  stamp = h.stamp;
  minutes = h.minutes;
  summary = h.summary.items;
}
