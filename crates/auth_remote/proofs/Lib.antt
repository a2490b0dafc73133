mod ExampleLemmas
mod HonestLemmas
mod PlainLemmas
mod SameLemmas
mod ShapeLemmas
