-- `strict` meets its contract: 16 bits count the tables.
use Rattle.std.proofs.Common.{◌∙◌, ap, arith}
use Rattle.links.specs.declared.Tree.{Tree}
use Rattle.links.specs.TreeLaws.{tables_made}
use Rattle.audit.specs.declared.Look.{Look}
use Rattle.audit.proofs.strict.Goals as goal

pub returns : goal.returns
returns c =
    ap {B = Look} (λ (t : Tree). record { tree = t; kept = t; bare = _ }) (c.of-tree.ensures ∙ tables_made c.args.s (omega (arith, c.requires)) (omega (arith, c.requires)))
