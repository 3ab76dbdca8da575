use Rattle.std.proofs.Common.{ap, ◌∙◌, arith}
use Rattle.cron_text.specs.Tokens.{word}
use Rattle.cron_text.proofs.Places.{letters_token, letters_cut, word_symbol}
use Rattle.cron_text.proofs.symbols.word_at.Goals as goal

pub range-requires-clause-end_boundary : goal.range-requires-clause-end_boundary
range-requires-clause-end_boundary c =
    let e = rw c.as_bytes.ensures.value at c.letters_end-end.ensures in
    letters_cut c.args.text.now c.args.at c.letters_end-end.result c.utf8.text c.requires.letter e.within e.further e.before

pub returns : goal.returns
returns c =
    let e = rw c.as_bytes.ensures.value at c.letters_end-end.ensures in
    record {
      further = omega (arith, e.further);
      within = e.within;
      seen = ap word c.range.ensures.value ∙ word_symbol c.args.text.now c.args.at c.letters_end-end.result c.requires.within c.requires.letter e.within
          e.further e.before;
      rest = letters_token c.args.text.now c.args.at c.letters_end-end.result c.requires.within c.requires.letter e.within e.further e.before e.end;
    }
