mod Showing
