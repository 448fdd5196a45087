use Rattle.keel_trash.proofs.Products.{product-parts}
use Rattle.keel_trash.proofs.formulas.product.Goals as goal

pub returns-clause-value : goal.returns-clause-value
returns-clause-value c = product-parts c.args.value c.args.factor
