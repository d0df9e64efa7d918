use Rattle.signature_requests.proofs.OneList.{one_list, agree_on_bytes}
use Rattle.signature_requests.proofs.laws.bytes_have_one_list_of_requests.Goals as goal

pub returns : goal.returns
returns c = record {
  one_list = one_list c.one_reading.ensures.one_block;
  agreement = agree_on_bytes c.one_reading.ensures.one_block;
}
