use Rattle.std.proofs.Common.{◌*◌, ◌∙◌, ap, arith}
use Rattle.mc_classes.specs.Classes.{size_of}
use Rattle.mc_shard.proofs.Fits.{lacks_beside, most_beside}
use Rattle.mc_shard.proofs.sizes.max_value.Goals as goal

pub returns-in_err-left-clause-none : goal.returns-in_err-left-clause-none
returns-in_err-left-clause-none c = λ none. lacks_beside c.args.classes.now c.count.ensures.sound c.args.key_len (omega (arith, c.size-words.ensures.size ∙ ap (size_of c.args.classes.now) c.count.ensures.count))

pub returns-clause-most : goal.returns-clause-most
returns-clause-most c =
    let size = c.size-words.ensures.size ∙ ap (size_of c.args.classes.now) c.count.ensures.count in
    most_beside c.args.classes.now c.count.ensures.sound c.args.key_len (8 * c.in_ok-left.left) (omega (arith, size)) (omega (arith, size))
