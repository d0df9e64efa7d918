mod Items
mod DequeEnds
mod Crossing
