-- `is_page` meets its contract: the base, the tables, and what the word is beside them.
use Rattle.audit.proofs.Pages.{page_askew, page_even, first_fit, second_fit, page_first, page_second, page_beside}
use Rattle.audit.proofs.is_page.Goals as goal

pub returns-then-rest-ne0 : goal.returns-then-rest-ne0
returns-then-rest-ne0 c = page_askew c.args.w c.args.look c.base_in-base.ensures c.rest_at-rest.ensures c.if-rest-ne0.true

pub is_within-requires : goal.is_within-requires
is_within-requires c = rw c.base_in-base.ensures (first_fit c.args.w c.args.look c.requires (page_even c.args.w c.args.look c.base_in-base.ensures c.rest_at-rest.ensures c.if-rest-ne0.false))

pub returns-then-is_within : goal.returns-then-is_within
returns-then-is_within c = page_first c.args.w c.args.look (page_even c.args.w c.args.look c.base_in-base.ensures c.rest_at-rest.ensures c.if-rest-ne0.false) c.base_in-base.ensures c.is_within.ensures c.if-is_within.true

pub is_within-requires-2 : goal.is_within-requires-2
is_within-requires-2 c = rw c.base_in-base.ensures (second_fit c.args.w c.args.look c.requires (page_even c.args.w c.args.look c.base_in-base.ensures c.rest_at-rest.ensures c.if-rest-ne0.false))

pub returns-then-is_within-2 : goal.returns-then-is_within-2
returns-then-is_within-2 c = page_second c.args.w c.args.look (page_even c.args.w c.args.look c.base_in-base.ensures c.rest_at-rest.ensures c.if-rest-ne0.false) c.base_in-base.ensures c.is_within.ensures c.if-is_within.false c.is_within-2.ensures c.if-is_within-2.true

pub returns : goal.returns
returns c = page_beside c.args.w c.args.look (page_even c.args.w c.args.look c.base_in-base.ensures c.rest_at-rest.ensures c.if-rest-ne0.false) c.base_in-base.ensures c.is_within.ensures c.if-is_within.false c.is_within-2.ensures c.if-is_within-2.false c.is_frame-page.ensures
