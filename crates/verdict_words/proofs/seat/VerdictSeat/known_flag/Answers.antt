use Rattle.std.proofs.Common.{◌∙◌, sym}
use Rattle.rules.specs.Fold.{flag}
use Rattle.verdict_words.proofs.Words.{known_flag_is, same_item}
use Rattle.verdict_words.proofs.seat.VerdictSeat.known_flag.Goals as goal

pub unreachable-requires : goal.unreachable-requires
unreachable-requires c =
    let e = c.load-word.ensures in
    c.in_default.not-Some _ (known_flag_is c.args.self.now.job c.load-word.new.self.job c.args.i c.load-word.result c.args.self.now.known c.load-word.new.self.known c.flag_in.result e.moves.job e.moves.stays e.fold c.requires.known e.word c.flag_in.ensures)

pub returns-clause-fold : goal.returns-clause-fold
returns-clause-fold c =
    let e = c.load-word.ensures in
    same_item c.in-Some.flag (flag c.args.self.now.job c.args.i)
    (sym c.in-Some.is ∙ known_flag_is c.args.self.now.job c.load-word.new.self.job c.args.i c.load-word.result c.args.self.now.known c.load-word.new.self.known c.flag_in.result e.moves.job e.moves.stays e.fold c.requires.known e.word c.flag_in.ensures)
