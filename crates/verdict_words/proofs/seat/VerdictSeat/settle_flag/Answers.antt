use Rattle.std.proofs.Common.{rules, sym, ◌∙◌}
use Rattle.verdict_words.proofs.Found.{flag_found, refusal_found}
use Rattle.verdict_words.proofs.seat.VerdictSeat.settle_flag.Goals as goal

pub store-requires-clause-fold : goal.store-requires-clause-fold
store-requires-clause-fold c = λ within.
    c.flag_word.ensures ∙ flag_found c.args.job.now c.args.self.now.job c.args.i c.in-Some.flag _ c.requires.job c.in-Some.ensures c.flag.ensures

pub store-requires-in-Some-false-clause-fold : goal.store-requires-in-Some-false-clause-fold
store-requires-in-Some-false-clause-fold c = λ within.
    c.flag_word-in-Some-false.ensures
    ∙ refusal_found c.args.job.now c.endorsed.new.self.job c.args.i _ c.endorsed.new.self.known (c.endorsed.ensures.moves.job ∙ c.requires.job) c.flag-flag.ensures (sym c.endorsed.ensures.value ∙ search rules) within
