mod Scripted
mod Listing
mod Telling
mod Turning
mod ReadLines
mod UnderstoodLines
