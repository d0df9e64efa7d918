use Rattle.history_index.proofs.Linking.{kept_more}
use Rattle.history_index.proofs.links.replace_last.Goals as goal

pub returns-clause-kept : goal.returns-clause-kept
returns-clause-kept c hashes keeps at = kept_more c.args.buckets.now hashes c.bucket_of-bucket.result c.args.hash c.args.place c.bucket_of-bucket.ensures.bucket c.bucket_of-bucket.ensures.bound keeps at
