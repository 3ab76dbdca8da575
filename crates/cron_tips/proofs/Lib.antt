mod NearLemmas
mod ZoneLemmas
