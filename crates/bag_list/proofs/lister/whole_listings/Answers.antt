use Rattle.bag_model.specs.Listings.{listed}
use Rattle.bag_list.proofs.lister.whole_listings.Goals as goal

pub returns : goal.returns
returns c = listed
