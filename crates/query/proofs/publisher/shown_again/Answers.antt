use Rattle.std.proofs.Common.{drop}
use Rattle.left_right.specs.Sides.{view}
use Rattle.query.proofs.Keeping.{shows_again, shows_all, stays}
use Rattle.query.proofs.publisher.shown_again.Goals as goal

pub publish_as-writer-requires : goal.publish_as-writer-requires
publish_as-writer-requires g c next is =
    let old = c.args.writer in
    shows_again _ (view old.desk.place) old.desk.shown.value next (drop old.behind old.log.items) c.requires.none is

pub returns-clause-place : goal.returns-clause-place
returns-clause-place g c =
    let old = c.args.writer in
    let made = c.publish_as-writer.result in
    stays made.1 (view old.desk.place) (view made.0.desk.place) old.desk.shown.value made.0.desk.shown.value c.publish_as-writer.ensures.rule

pub returns-clause-same : goal.returns-clause-same
returns-clause-same g c =
    let old = c.args.writer in
    let made = c.publish_as-writer.result in
    (shows_all old.desk.shown.value made.0.desk.shown.value (drop old.behind old.log.items) (drop made.0.behind made.0.log.items) made.1 c.publish_as-writer.ensures.values c.requires.none).0

pub returns-clause-none : goal.returns-clause-none
returns-clause-none g c =
    let old = c.args.writer in
    let made = c.publish_as-writer.result in
    (shows_all old.desk.shown.value made.0.desk.shown.value (drop old.behind old.log.items) (drop made.0.behind made.0.log.items) made.1 c.publish_as-writer.ensures.values c.requires.none).1
