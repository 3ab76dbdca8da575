use Rattle.std.proofs.Common.{sym, ◌∙◌, arith}
use Rattle.cron_text.proofs.Places.{sign_token, lone_symbol}
use Rattle.cron_text.proofs.symbols.symbol_at.Goals as goal

pub returns : goal.returns
returns c =
    let digit = rw c.as_bytes.ensures.value at (sym c.is_digit.ensures ∙ c.if-is_digit.false) in
    let letter = rw c.as_bytes.ensures.value at (sym c.is_letter.ensures ∙ c.if-is_letter.false) in
    let sign = rw c.as_bytes.ensures.value at c.sign.ensures in
    record {
      further = omega arith;
      within = omega (arith, c.requires.within);
      seen = sign ∙ lone_symbol c.args.text.now c.args.at c.requires.within digit letter;
      rest = sign_token c.args.text.now c.args.at c.requires.within c.requires.front digit letter;
    }
