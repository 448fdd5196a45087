use Rattle.keel_script.proofs.Numbers.{decimal_from-is}
use Rattle.keel_script.proofs.arguments.decimal_of.Goals as goal

pub returns : goal.returns
returns c =
    decimal_from-is c.args.word.now c.read_decimal.result c.read_decimal.ensures.found c.read_decimal.ensures.fits c.read_decimal.ensures.none
