-- Laws: a reader gets back what was written.
use Rattle.std.specs.Prelude.{◌≡◌, ◌<◌, ◌^◌, ℕ, nat_abs, List, ◌++◌}
use Rattle.std.specs.Str.{IsUtf8}
use Rattle.cron_ics.specs.Events.{digest_text, summary_line, uid_line}
use Rattle.cron_ics.specs.Folding.{HasNoReturn, IsFolded, folded, line_end, unfolded}
use Rattle.cron_ics.specs.Texts.{escaped, unescaped}
use Rattle.cron_ics.specs.declared.fires.Fire.{Fire}

-- a text that is escaped reads back unchanged
abbrev pub EscapedReadsBack : Type 0
EscapedReadsBack = (text : List ℕ) → unescaped (escaped text) ≡ text

-- a line that is folded reads back unchanged, with its line end
abbrev pub FoldedReadsBack : Type 0
FoldedReadsBack = (line : List ℕ) → HasNoReturn line → unfolded (folded line) ≡ line ++ line_end

-- the pieces of a folded line have at most 75 octets with the space before them, and none cuts a
-- character
abbrev pub FoldedIsFolded : Type 0
FoldedIsFolded = (line : List ℕ) → IsUtf8 line → IsFolded line (folded line)

-- the line of each summary is UTF-8 and has no carriage return, whatever the bytes of its text are
abbrev pub SummariesAreLines : Type 0
SummariesAreLines = (text : List ℕ) → IsUtf8 (summary_line text) × HasNoReturn (summary_line text)

-- two events have the same digest and copy of their entry, the same fire and the same domain
pub record IsOneEvent (text other : List ℕ) (copy another : ℕ) (f g : Fire) (domain place : List ℕ) : Type 0 where
  pub same_digest : digest_text text ≡ digest_text other
  pub same_copy : copy ≡ another
  pub same_instant : f.second ≡ g.second
  pub same_civil : f.civil ≡ g.civil
  pub same_domain : domain ≡ place

-- Two events with the same UID share the digest and the copy of their entry, the instant, the civil
-- second that matches, and the domain. The civil second is needed: two fires of one gap share their
-- instant.
abbrev pub UidsTellEventsApart : Type 0
UidsTellEventsApart =
    (text other : List ℕ) (copy another : ℕ) (f g : Fire) (domain place : List ℕ)
    → copy < 2 ^ 64
    → another < 2 ^ 64
    → nat_abs f.second < 2 ^ 63
    → nat_abs g.second < 2 ^ 63
    → f.civil < 2 ^ 32
    → g.civil < 2 ^ 32
    → uid_line (digest_text text) copy f domain ≡ uid_line (digest_text other) another g place
    → IsOneEvent text other copy another f g domain place
