-- The classes of bytes that the reader's inner functions name.
use Rattle.std.specs.Prelude.{ℕ, Bool}
use Rattle.cron_tab_lines.specs.Bytes.{is_blank, no_blank, is_white, in_name, in_quotes, in_quoted_name}
use Rattle.cron_tab_lines.specs.declared.bytes.Class.{Class}
use Rattle.cron_tab_lines.specs.declared.bytes.Class.TheVariants.{Blank, Word, White, Name, QuotedName, Quoted}

abbrev pub in_class : Class → (ℕ → Bool)
in_class Blank = is_blank
in_class Word = no_blank
in_class White = is_white
in_class Name = in_name
in_class (QuotedName mark) = in_quoted_name mark
in_class (Quoted mark) = in_quotes mark
