-- What an answer unfolds to compute on a literal what a text means.
use Rattle.std.specs.Prelude.{⊤}
use Rattle.cron_units.specs.Units.{whole}
use Rattle.cron_text.specs.Meaning.{trimmed_end, trimmed_front}
use Rattle.cron_text.specs.Tokens.{symbol_of, tokens}

unfoldable pub cron_on_literals : ⊤
unfolding tokens symbol_of whole trimmed_front trimmed_end
cron_on_literals = tt
