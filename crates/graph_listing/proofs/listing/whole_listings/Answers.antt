use Rattle.bag_model.specs.Listings.{listed}
use Rattle.graph_listing.proofs.listing.whole_listings.Goals as goal

pub returns : goal.returns
returns c = listed
